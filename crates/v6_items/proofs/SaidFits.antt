-- The items that are read of a message are within the bounds of a lease.
use Rattle.std.proofs.Common.{◌≡◌, ℕ, zero, suc, ◌+◌, ◌*◌, ◌-◌, ◌/◌, ◌%◌, ◌^◌, ◌<◌, Bool, true, false, ◌&&◌, cond, List, [], ◌∷◌, take, drop, Option, Some, None, IfSome, refl, sym, ap, ◌∙◌, subst, arith, eqb, leb}
use Rattle.std.specs.List.{AllByRecursion, cons_option, filter_map}
use Rattle.std.proofs.Math.Nat.{div-add-mod', mul-mod_left}
use Rattle.std.proofs.lemmas.Bool.{and_parts, leb-true}
use Rattle.net_types.specs.Moments.{IsMoment}
use Rattle.net_types.proofs.AllLaws.{all_both}
use Rattle.net_types.proofs.CaseLaws.{split}
use Rattle.v6_options.specs.declared.ia.IaKind.{IaKind}
use Rattle.v6_options.specs.declared.ia.IaKind.TheVariants.{Na, Pd}
use Rattle.v6_options.specs.declared.ia.ItemSaid.{ItemSaid}
use Rattle.v6_options.specs.Codes.{ia_na, ia_pd}
use Rattle.v6_options.specs.Ias.{IaContent, ia_by, ias_in, item_by}
use Rattle.v6_options.specs.Layout.{ia_fields_len}
use Rattle.v6_options.specs.OptionArea.{Instance, instances_in}
use Rattle.lease6_text.specs.declared.lease.TheConstants.{ITEM_LIMIT, LONGEST_DELEGATED, SHORTEST_DELEGATED}
use Rattle.lease6_text.specs.Bounds.{FitsItem, FitsLen, FitsMoment, IsNetwork}
use Rattle.lease6_text.specs.LineParts.{is_same_kind}
use Rattle.v6_items.specs.declared.asks.IaAsk.{IaAsk}
use Rattle.v6_items.specs.declared.times.TheConstants.{FOREVER}
use Rattle.v6_items.specs.Bounds.{AreTimed, IsTimed}
use Rattle.v6_items.specs.Reading.{cleared, has_len, ia_for, is_for, is_read, is_readable, is_usable, read_item, read_items, saids_of}
use Rattle.v6_items.specs.Taking.{item_from}
use Rattle.v6_items.specs.Times.{moment_after}
use Rattle.lease6_text.proofs.IaFacts.{kind_is}

-- ---- the nets that are read

without_rest : (n d : ℕ) → n - n % d ≡ n / d * d
without_rest n d = let parts : n / d * d + n % d ≡ n = div-add-mod' n d in omega arith

network : (n d : ℕ) → (n - n % d) % d ≡ 0
network n d = ap (λ k. k % d) (without_rest n d) ∙ mul-mod_left (n / d) d

pub record HasNet (kind : IaKind) (said : ItemSaid) : Type 0 where
  pub len : FitsLen kind said.net.len
  pub network : IsNetwork said.net

-- an address comes with its length
abbrev LenOf : IaKind → ItemSaid → Type 0
LenOf Na said = said.net.len ≡ 128
LenOf Pd said = Unit {0}

whole : (n : ℕ) → n % 2 ^ (128 - 128) ≡ 0
whole n = omega arith

read_net : (kind : IaKind) (said : ItemSaid) → LenOf kind said → is_read kind said ≡ true → HasNet kind (cleared kind said)
read_net Na said len e = record {
  len = len;
  network = subst (λ l. said.net.ip.number % 2 ^ (128 - l) ≡ 0) (sym len) (whole said.net.ip.number);
}
read_net Pd said len e =
    let parts = and_parts (leb said.preferred said.valid && is_usable said.net.ip) (has_len Pd said.net.len) e in
    let lens = and_parts (leb SHORTEST_DELEGATED said.net.len) (leb said.net.len LONGEST_DELEGATED) parts.1 in
    record {
      len = (leb-true _ _ lens.0, leb-true _ _ lens.1);
      network = network said.net.ip.number (2 ^ (128 - said.net.len));
    }

read_all : (kind : IaKind) (items : List ItemSaid) → AllByRecursion (LenOf kind) items
    → AllByRecursion (HasNet kind) (filter_map (read_item kind) items)
read_all kind [] lens = tt
read_all kind (said ∷ saids) lens =
    split (is_read kind said)
    (λ e. rw e (read_net kind said lens.0 e, read_all kind saids lens.1)) (λ e. rw e (read_all kind saids lens.1))

pub take_all : {X : Type 0} (P : X → Type 0) (n : ℕ) (xs : List X) → AllByRecursion P xs → AllByRecursion P (take n xs)
take_all P zero xs all = tt
take_all P (suc n) [] all = tt
take_all P (suc n) (x ∷ xs) all = (all.0, take_all P n xs all.1)

ia_read : (ia : IaContent) → AllByRecursion (LenOf ia.kind) ia.items → AllByRecursion (HasNet ia.kind) (read_items ia)
ia_read ia lens =
    split (is_readable ia)
    (λ e. rw e (take_all (HasNet ia.kind) ITEM_LIMIT (filter_map (read_item ia.kind) ia.items) (read_all ia.kind ia.items lens)))
    (λ e. rw e tt)

-- ---- the IAs of a message

pub cons_all : {X : Type 0} (P : X → Type 0) (o : Option X) (xs : List X) → IfSome o P → AllByRecursion P xs → AllByRecursion P (cons_option o xs)
cons_all P None xs here all = all
cons_all P (Some x) xs here all = (here, all)

any_len : (o : Option ItemSaid) → IfSome o (LenOf Pd)
any_len None = tt
any_len (Some said) = tt

if_len : (b : Bool) (said : ItemSaid) → said.net.len ≡ 128 → IfSome (cond b (Some said) None) (LenOf Na)
if_len true said len = len
if_len false said len = tt

item_len : (kind : IaKind) (instance : Instance) → IfSome (item_by kind instance) (LenOf kind)
item_len Na instance = if_len _ _ refl
item_len Pd instance = any_len (item_by Pd instance)

items_len : (kind : IaKind) (instances : List Instance) → AllByRecursion (LenOf kind) (filter_map (item_by kind) instances)
items_len kind [] = tt
items_len kind (instance ∷ instances) =
    cons_all (LenOf kind) (item_by kind instance) (filter_map (item_by kind) instances) (item_len kind instance) (items_len kind instances)

ia_len : (instance : Instance) → IfSome (ia_by instance) (λ (ia : IaContent). AllByRecursion (LenOf ia.kind) ia.items)
ia_len instance =
    split (eqb instance.0 ia_na)
    (λ e. rw e (items_len Na (instances_in (drop ia_fields_len instance.1))))
    (λ e. rw e (split (eqb instance.0 ia_pd)
    (λ f. rw f (items_len Pd (instances_in (drop ia_fields_len instance.1)))) (λ f. rw f tt)))

ias_len : (instances : List Instance) → AllByRecursion (λ (ia : IaContent). AllByRecursion (LenOf ia.kind) ia.items) (filter_map ia_by instances)
ias_len [] = tt
ias_len (instance ∷ instances) =
    cons_all (λ (ia : IaContent). AllByRecursion (LenOf ia.kind) ia.items) (ia_by instance) (filter_map ia_by instances) (ia_len instance)
    (ias_len instances)

found_nets : (ask : IaAsk) (ias : List IaContent) → AllByRecursion (λ (ia : IaContent). AllByRecursion (LenOf ia.kind) ia.items) ias
    → AllByRecursion (HasNet ask.kind) (saids_of (ia_for ask ias))
found_nets ask [] all = tt
found_nets ask (ia ∷ ias) all =
    split (is_for ask ia)
    (λ e. rw e (subst (λ k. AllByRecursion (HasNet k) (read_items ia))
    (kind_is ia.kind ask.kind (and_parts (is_same_kind ia.kind ask.kind) (eqb ia.iaid ask.iaid) e).0) (ia_read ia all.0)))
    (λ e. rw e (found_nets ask ias all.1))

-- ---- their moments

pub moment_fits : (at seconds : ℕ) → IsMoment at → seconds < 2 ^ 32 → FitsMoment (moment_after at seconds)
moment_fits at seconds early short =
    split (eqb seconds FOREVER) (λ e. rw e tt) (λ e. rw e (omega (arith, early, short)))

said_fits : (kind : IaKind) (at : ℕ) (said : ItemSaid) → IsMoment at → HasNet kind said → IsTimed said → FitsItem kind (item_from at said)
said_fits kind at said early net timed = record {
  len = net.len;
  network = net.network;
  preferred = moment_fits at said.preferred early timed.preferred;
  valid = moment_fits at said.valid early timed.valid;
}

-- what counts of an IA of a message
pub saids_fit : (ask : IaAsk) (at : ℕ) (options : List ℕ) → IsMoment at → AreTimed (saids_of (ia_for ask (ias_in options)))
    → AllByRecursion (λ said. FitsItem ask.kind (item_from at said)) (saids_of (ia_for ask (ias_in options)))
saids_fit ask at options early timed =
    all_both (HasNet ask.kind) IsTimed (λ said. FitsItem ask.kind (item_from at said)) (λ said net time. said_fits ask.kind at said early net time)
    (saids_of (ia_for ask (ias_in options))) (found_nets ask (ias_in options) (ias_len (instances_in options))) timed
