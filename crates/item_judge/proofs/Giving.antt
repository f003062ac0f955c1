-- The addresses that the judge gives are those that have a basis.
use Rattle.std.proofs.Common.{◌≡◌, ℕ, zero, suc, ◌<◌, ◌⊎◌, inl, inr, Bool, true, false, ◌&&◌, ◌||◌, List, [], ◌∷◌, ◌++◌, length, get_or, Option, Some, None, refl, sym, ap, subst, ◌∙◌, arith}
use Rattle.std.specs.List.{Contains, cons_option, filter_map, list_any}
use Rattle.std.specs.Prelude.{◌==◌, drop, if◌then◌else◌}
use Rattle.std.proofs.lemmas.Bool.{and_parts, and_from, eqb-true, eq-eqb, or_left, or_right}
use Rattle.std.proofs.lemmas.List.Elements.{Contains-append_cases}
use Rattle.machine.specs.Since.{Since}
use Rattle.net_types.specs.declared.address.Net.{Net}
use Rattle.net_types.specs.declared.address.Net.TheVariants.{V4, V6}
use Rattle.net_types.specs.declared.address.Net6.{Net6}
use Rattle.v6_options.specs.declared.ia.IaKind.{IaKind}
use Rattle.v6_options.specs.declared.ia.IaKind.TheVariants.{Na, Pd}
use Rattle.v6_options.specs.declared.ia.ItemSaid.{ItemSaid}
use Rattle.v6_options.specs.Codes.{ia_address, ia_na, ia_pd}
use Rattle.v6_options.specs.Ias.{IaContent, address_in, ia_by, ia_in, ias_in, item_by, items_in}
use Rattle.v6_options.specs.Layout.{address_fields_len}
use Rattle.v6_options.specs.OptionArea.{Instance, instances_in}
use Rattle.v6_options.specs.Statuses.{status_in, success}
use Rattle.v6_message.specs.Replies.{Content6}
use Rattle.v6_items.specs.declared.asks.IaAsk.{IaAsk}
use Rattle.lease6_evidence.proofs.V6ClientLaws.FirstItems.{none_in}
use Rattle.lease6_evidence.proofs.V6ClientLaws.Given.{met}
use Rattle.lease6_evidence.specs.V6ClientLaws.GivenItems.{IsHeldAs}
use Rattle.evidence_words.specs.Entries.{Entry}
use Rattle.evidence_words.specs.Inputs.{Site}
use Rattle.lease6_evidence.specs.Replies6.{asks_at}
use Rattle.lease6_judge.specs.HeardBasis.{HasItem, HeardAddressBasis, HeardBasis, HeardItem, Spares}
use Rattle.lease6_judge.specs.HeardTerms.{heard_in}
use Rattle.lease6_judge.specs.Terms.{is_held}
use Rattle.lease6_judge.proofs.HeardTold as law
use Rattle.item_judge.specs.declared.table.ItemTable.{ItemTable}
use Rattle.item_judge.specs.Judging.{AddressesAreGiven, IsDelegated, PrefixesAreDelegated, TellsItems, TellsTables, holds_address, holds_prefix, is_delegated, is_given, is_na, is_pd}
use Rattle.item_judge.specs.Tables.{term_at}
use Rattle.item_judge.specs.Turns.{FitsKind}

-- ---- elements that a function gives

record From {X Y : Type 0} (h : X → Option Y) (y : Y) : Type 0 where
  pub x : X
  pub is : h x ≡ Some y

one_at : {Y : Type 0} (x y : Y) (k : ℕ) → k < 1 → get_or (x ∷ []) k y ≡ y → x ≡ y
one_at x y zero less is = is
one_at x y (suc k) less is = absurd (omega (arith, less))

from_step : {X Y : Type 0} (h : X → Option Y) (x : X) (y : Y) (rest : List Y) (o : Option Y) → h x ≡ o → (Contains rest y → From h y)
    → Contains (cons_option o rest) y → From h y
from_step h x y rest None is more among = more among
from_step h x y rest (Some z) is more among = elim (Contains-append_cases (z ∷ []) rest y among) [
  | inl here ↦ record { x = x; is = is ∙ ap (λ w. Some w) (one_at z y here.0 here.1 here.2) }
  | inr later ↦ more later
]

from_of : {X Y : Type 0} (h : X → Option Y) (xs : List X) (y : Y) → Contains (filter_map h xs) y → From h y
from_of h [] y among = absurd (none_in y among)
from_of h (x ∷ xs) y among = from_step h x y (filter_map h xs) (h x) refl (λ rest. from_of h xs y rest) among

-- ---- an address of an IA_NA has all bits

same_some : {X : Type 0} (x y : X) → Some x ≡ Some y → x ≡ y
same_some x y e = cc

address_len : (instance : Instance) (said : ItemSaid) (b : Bool) → (if b then Some (address_in instance.1) else None) ≡ Some said → said.net.len ≡ 128
address_len instance said true is = ap (λ (s : ItemSaid). s.net.len) (sym (same_some (address_in instance.1) said is))
address_len instance said false is = absurd cc

abbrev AllAddresses : IaContent → Type 0
AllAddresses ia = ia.kind ≡ Na → (said : ItemSaid) → Contains ia.items said → said.net.len ≡ 128

abbrev of_na : (value : List ℕ) (said : ItemSaid) → Contains (ia_in Na value).items said → said.net.len ≡ 128
of_na value said among =
    let from = from_of (item_by Na) (instances_in (drop 12 value)) said among in
    address_len from.x said ((from.x.0 == ia_address) && (status_in (drop address_fields_len from.x.1) == success)) from.is

pd_not : Pd ≡ Na → ⊥
pd_not e = cc

by_kind : (value : List ℕ) (ia : IaContent) (na pd : Bool)
    → (if na then Some (ia_in Na value) else if pd then Some (ia_in Pd value) else None) ≡ Some ia → AllAddresses ia
by_kind value ia true pd is =
    subst (λ (x : IaContent). AllAddresses x) (same_some (ia_in Na value) ia is) (λ kind said among. of_na value said among)
by_kind value ia false true is =
    subst (λ (x : IaContent). AllAddresses x) (same_some (ia_in Pd value) ia is) (λ kind said among. absurd (pd_not kind))
by_kind value ia false false is = absurd cc

all_addresses : (options : List ℕ) (ia : IaContent) → Contains (ias_in options) ia → AllAddresses ia
all_addresses options ia among =
    let from = from_of ia_by (instances_in options) ia among in
    by_kind from.x.1 ia (from.x.0 == ia_na) (from.x.0 == ia_pd) from.is

has_len : (ask : IaAsk) (net : Net6) (message : Content6) → ask.kind ≡ Na → HasItem ask net message → net.len ≡ 128
has_len ask net message na has =
    let kind : has.ia.kind ≡ Na = has.is.kind_is ∙ na in
    let held : net ≡ has.said.net = subst (λ (k : IaKind). IsHeldAs k has.said.net net) kind has.item in
    ap (λ (n : Net6). n.len) held ∙ all_addresses message.options has.ia has.among kind has.said has.of_ia

module _ (site : Site) (ask : IaAsk) (net : Net6) (now number : ℕ) (na : ask.kind ≡ Na) where
  since_len : (past : List Entry) → Since (Spares site ask net number) (HeardItem site ask net number now) past → net.len ≡ 128
  since_len [] since = absurd since
  since_len (e ∷ past) (inl g) = has_len ask net g.message na g.has
  since_len (e ∷ past) (inr on) = since_len past on.1

-- ---- the law

na_of : (kind : IaKind) → is_na kind ≡ true → kind ≡ Na
na_of Na h = refl
na_of Pd h = absurd cc

is_na_of : (kind : IaKind) → kind ≡ Na → is_na kind ≡ true
is_na_of kind na = ap is_na na

any_from : {X : Type 0} (test : X → Bool) (xs : List X) (x : X) (k : ℕ) → k < length xs → get_or xs k x ≡ x → test x ≡ true
    → list_any test xs ≡ true
any_from test [] x k less is t = absurd (omega (arith, less))
any_from test (y ∷ ys) x zero less is t = or_left (test y) (list_any test ys) (subst (λ z. test z ≡ true) (sym is) t)
any_from test (y ∷ ys) x (suc k) less is t = or_right (test y) (list_any test ys) (any_from test ys x k (omega (arith, less)) is t)

module _ (site : Site) (now : ℕ) (past : List Entry) where
  abbrev gives : Net6 → IaAsk → Bool
  gives item ask = is_na ask.kind && (item.len == 128) && is_held now (heard_in site ask item past)

  given_based : (net : Net) → is_given site net now past ≡ true → HeardAddressBasis site net now past
  given_based (V4 net) h = absurd cc
  given_based (V6 item) h =
      let one = met (gives item) (asks_at site) h in
      let parts = and_parts (is_na one.x.kind && (item.len == 128)) (is_held now (heard_in site one.x item past)) one.passes in
      let two = and_parts (is_na one.x.kind) (item.len == 128) parts.0 in
      record {
        ask = one.x;
        asked = one.among;
        is_address = na_of one.x.kind two.0;
        item = item;
        is_item = refl;
        basis = (law.heard_told site one.x item now past).0 parts.1;
      }

  based_given : (net : Net) → HeardAddressBasis site net now past → is_given site net now past ≡ true
  based_given net it =
      let len : it.item.len ≡ 128 = since_len site it.ask it.item now it.basis.number it.is_address past it.basis.since in
      let passes : gives it.item it.ask ≡ true =
      and_from (is_na it.ask.kind && (it.item.len == 128)) (is_held now (heard_in site it.ask it.item past))
      (and_from (is_na it.ask.kind) (it.item.len == 128) (is_na_of it.ask.kind it.is_address) (eq-eqb it.item.len 128 len))
      ((law.heard_told site it.ask it.item now past).1 it.basis) in
      subst (λ (n : Net). is_given site n now past ≡ true) (sym it.is_item)
      (any_from (gives it.item) (asks_at site) it.ask it.asked.0 it.asked.1 it.asked.2 passes)

  -- ---- what the tables give

  gated : (a b x y : Bool) → (a ≡ true → b ≡ true → x ≡ y) → (a && b && x) ≡ (a && b && y)
  gated true true x y same = same refl refl
  gated true false x y same = refl
  gated false b x y same = refl

  fits : (ask : IaAsk) (net : Net6) → is_na ask.kind ≡ true → (net.len == 128) ≡ true → FitsKind ask.kind net
  fits ask net na len = subst (λ (k : IaKind). FitsKind k net) (sym (na_of ask.kind na)) (eqb-true net.len 128 len)

  pub holds_same : (net : Net6) (table : ItemTable) (ask : IaAsk) → TellsItems site past table ask → holds_address table net now ≡ gives net ask
  holds_same net table ask t =
      ap (λ (a : IaAsk). is_na a.kind && (net.len == 128) && is_held now (term_at table.terms net)) t.ask_is
      ∙ gated (is_na ask.kind) (net.len == 128) (is_held now (term_at table.terms net)) (is_held now (heard_in site ask net past))
      (λ na len. ap (is_held now) (t.terms net (fits ask net na len)))

  pub some_same : (net : Net6) (tables : List ItemTable) (asks : List IaAsk) → TellsTables site past tables asks
      → list_any (λ table. holds_address table net now) tables ≡ list_any (gives net) asks
  some_same net [] [] t = refl
  some_same net [] (ask ∷ asks) t = absurd t
  some_same net (table ∷ tables) [] t = absurd t
  some_same net (table ∷ tables) (ask ∷ asks) t = λ i. holds_same net table ask t.0 i || some_same net tables asks t.1 i

-- ---- prefixes

pd_of : (kind : IaKind) → is_pd kind ≡ true → kind ≡ Pd
pd_of Pd h = refl
pd_of Na h = absurd cc

module _ (site : Site) (iaid : ℕ) (now : ℕ) (past : List Entry) where
  abbrev delegates : Net6 → IaAsk → Bool
  delegates net ask = is_pd ask.kind && (ask.iaid == iaid) && is_held now (heard_in site ask net past)

  delegated_based : (net : Net6) → is_delegated site iaid net now past ≡ true → IsDelegated site iaid net now past
  delegated_based net h =
      let one = met (delegates net) (asks_at site) h in
      let parts = and_parts (is_pd one.x.kind && (one.x.iaid == iaid)) (is_held now (heard_in site one.x net past)) one.passes in
      let two = and_parts (is_pd one.x.kind) (one.x.iaid == iaid) parts.0 in
      record {
        ask = one.x;
        asked = one.among;
        is_prefix = pd_of one.x.kind two.0;
        same = eqb-true one.x.iaid iaid two.1;
        basis = (law.heard_told site one.x net now past).0 parts.1;
      }

  based_delegated : (net : Net6) → IsDelegated site iaid net now past → is_delegated site iaid net now past ≡ true
  based_delegated net it =
      any_from (delegates net) (asks_at site) it.ask it.asked.0 it.asked.1 it.asked.2
      (and_from (is_pd it.ask.kind && (it.ask.iaid == iaid)) (is_held now (heard_in site it.ask net past))
      (and_from (is_pd it.ask.kind) (it.ask.iaid == iaid) (ap is_pd it.is_prefix) (eq-eqb it.ask.iaid iaid it.same))
      ((law.heard_told site it.ask net now past).1 it.basis))

  either_way : (a b x y : Bool) → (a ≡ true → x ≡ y) → (a && b && x) ≡ (a && b && y)
  either_way true true x y same = same refl
  either_way true false x y same = refl
  either_way false b x y same = refl

  fits_pd : (ask : IaAsk) (net : Net6) → is_pd ask.kind ≡ true → FitsKind ask.kind net
  fits_pd ask net pd = subst (λ (k : IaKind). FitsKind k net) (sym (pd_of ask.kind pd)) tt

  delegates_same : (net : Net6) (table : ItemTable) (ask : IaAsk) → TellsItems site past table ask
      → holds_prefix table iaid net now ≡ delegates net ask
  delegates_same net table ask t =
      ap (λ (a : IaAsk). is_pd a.kind && (a.iaid == iaid) && is_held now (term_at table.terms net)) t.ask_is
      ∙ either_way (is_pd ask.kind) (ask.iaid == iaid) (is_held now (term_at table.terms net)) (is_held now (heard_in site ask net past))
      (λ pd. ap (is_held now) (t.terms net (fits_pd ask net pd)))

  pub all_same : (net : Net6) (tables : List ItemTable) (asks : List IaAsk) → TellsTables site past tables asks
      → list_any (λ table. holds_prefix table iaid net now) tables ≡ list_any (delegates net) asks
  all_same net [] [] t = refl
  all_same net [] (ask ∷ asks) t = absurd t
  all_same net (table ∷ tables) [] t = absurd t
  all_same net (table ∷ tables) (ask ∷ asks) t = λ i. delegates_same net table ask t.0 i || all_same net tables asks t.1 i

pub prefixes_delegated : PrefixesAreDelegated
prefixes_delegated site iaid net now past = (delegated_based site iaid now past net, based_delegated site iaid now past net)

pub addresses_given : AddressesAreGiven
addresses_given site net now past = (given_based site now past net, based_given site now past net)
