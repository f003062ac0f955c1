-- The items that are read of a message are those that it has.
use Rattle.std.proofs.Common.{◌≡◌, ℕ, zero, suc, ◌<◌, ◌⊎◌, inl, inr, Bool, true, false, List, [], ◌∷◌, ◌++◌, length, get_or, refl, sym, ap, subst, ◌∙◌, arith}
use Rattle.std.specs.Bool.{Decides}
use Rattle.std.specs.List.{Contains, filter_map}
use Rattle.std.specs.Prelude.{◌==◌, if◌then◌else◌}
use Rattle.std.proofs.lemmas.Bool.{and_parts, and_from, eqb-true, eq-eqb}
use Rattle.std.proofs.lemmas.List.Elements.{Contains-append_cases, Contains-append_left, Contains-append_right}
use Rattle.net_types.proofs.CaseLaws.{split}
use Rattle.net_types.specs.declared.address.Net6.{Net6}
use Rattle.v6_options.specs.declared.ia.IaKind.{IaKind}
use Rattle.v6_options.specs.declared.ia.IaKind.TheVariants.{Na, Pd}
use Rattle.v6_options.specs.declared.ia.ItemSaid.{ItemSaid}
use Rattle.v6_options.specs.Ias.{IaContent, ias_in}
use Rattle.v6_message.specs.Replies.{Content6}
use Rattle.lease6_text.specs.LineParts.{is_same_kind}
use Rattle.v6_client.specs.V6Items.declared.asks.IaAsk.{IaAsk}
use Rattle.v6_client.specs.V6Items.Reading.{cleared, is_for, is_read, is_readable, read_item}
use Rattle.v6_client_laws.specs.GivenItems.{IsHeldAs, IsOf, IsWell, MayBeHeld}
use Rattle.v6_client_laws.proofs.FirstItems.{behind_in, front_in, none_in}
use Rattle.v6_client_laws.proofs.ItemTests.{held_as, held_is, may_decides, valid_as, well_decides}
use Rattle.lease6_evidence.specs.ItemBasis.{IsValid}
use Rattle.lease6_judge.specs.HeardBasis.{HasItem}
use Rattle.lease6_judge.specs.HeardTerms.{all_items, items_heard, items_if_of, items_read}
use Rattle.lease6_judge.proofs.TermsTold.{GivenIn}

kind_decides : (one other : IaKind) → Decides (is_same_kind one other) (one ≡ other)
kind_decides Na Na = (λ e. refl, λ e. refl)
kind_decides Pd Pd = (λ e. refl, λ e. refl)
kind_decides Na Pd = (λ e. absurd cc, λ e. absurd cc)
kind_decides Pd Na = (λ e. absurd cc, λ e. absurd cc)

of_decides : (ask : IaAsk) (ia : IaContent) → Decides (is_for ask ia) (IsOf ask.kind ask.iaid ia)
of_decides ask ia = (
  λ e.
      let parts = and_parts (is_same_kind ia.kind ask.kind) (ia.iaid == ask.iaid) e in
      record { kind_is = (kind_decides ia.kind ask.kind).0 parts.0; iaid_is = eqb-true ia.iaid ask.iaid parts.1 },
  λ is. and_from _ _ ((kind_decides ia.kind ask.kind).1 is.kind_is) (eq-eqb ia.iaid ask.iaid is.iaid_is),
)

one_at : (x y : ItemSaid) (k : ℕ) → k < 1 → get_or (x ∷ []) k y ≡ y → y ≡ x
one_at x y zero less is = sym is
one_at x y (suc k) less is = absurd (omega (arith, less))

one_in : (x y : ItemSaid) → Contains (x ∷ []) y → y ≡ x
one_in x y among = one_at x y among.0 among.1 among.2

-- ---- items of an IA

record ReadIn (kind : IaKind) (items : List ItemSaid) (held : ItemSaid) : Type 0 where
  pub said : ItemSaid
  pub among : Contains items said
  pub may : MayBeHeld kind said
  pub is : held ≡ cleared kind said

module _ (kind : IaKind) where
  later : (item : ItemSaid) (items : List ItemSaid) (held : ItemSaid) → ReadIn kind items held → ReadIn kind (item ∷ items) held
  later item items held r = record { said = r.said; among = behind_in item items r.said r.among; may = r.may; is = r.is }

  either_read : (item : ItemSaid) (items : List ItemSaid) (held : ItemSaid)
      → (Contains (filter_map (read_item kind) items) held → ReadIn kind items held) → MayBeHeld kind item
      → Contains (cleared kind item ∷ []) held ⊎ Contains (filter_map (read_item kind) items) held → ReadIn kind (item ∷ items) held
  either_read item items held more may (inl here) =
      record { said = item; among = front_in item items; may = may; is = one_in (cleared kind item) held here }
  either_read item items held more may (inr rest) = later item items held (more rest)

  read_among : (items : List ItemSaid) (held : ItemSaid) → Contains (filter_map (read_item kind) items) held → ReadIn kind items held
  read_among [] held among = absurd (none_in held among)
  read_among (item ∷ items) held among =
      let more : Contains (filter_map (read_item kind) items) held → ReadIn kind items held = λ rest. read_among items held rest in
      let step : Contains (filter_map (read_item kind) (item ∷ items)) held → ReadIn kind (item ∷ items) held =
      split (is_read kind item)
      (λ t. rw t (λ has. either_read item items held more ((may_decides kind item).0 t)
      (Contains-append_cases (cleared kind item ∷ []) (filter_map (read_item kind) items) held has)))
      (λ f. rw f (λ has. later item items held (more has))) in
      step among

  kept_at : (said : ItemSaid) → MayBeHeld kind said → (items : List ItemSaid) (k : ℕ) → k < length items → get_or items k said ≡ said
      → Contains (filter_map (read_item kind) items) (cleared kind said)
  kept_at said may [] k less is = absurd (omega (arith, less))
  kept_at said may (item ∷ items) zero less is =
      subst (λ (x : ItemSaid). Contains (filter_map (read_item kind) (x ∷ items)) (cleared kind said)) (sym is)
      (let e = (may_decides kind said).1 may in rw e (front_in (cleared kind said) (filter_map (read_item kind) items)))
  kept_at said may (item ∷ items) (suc k) less is =
      let rest = kept_at said may items k (omega (arith, less)) is in
      split (is_read kind item)
      (λ t. rw t (behind_in (cleared kind item) (filter_map (read_item kind) items) (cleared kind said) rest))
      (λ f. rw f rest)

-- ---- items of all IAs

record FoundIn (ask : IaAsk) (ias : List IaContent) (held : ItemSaid) : Type 0 where
  pub ia : IaContent
  pub among : Contains ias ia
  pub is : IsOf ask.kind ask.iaid ia
  pub well : IsWell ia
  pub read : ReadIn ia.kind ia.items held

module _ (ask : IaAsk) where
  further : (ia : IaContent) (ias : List IaContent) (held : ItemSaid) → FoundIn ask ias held → FoundIn ask (ia ∷ ias) held
  further ia ias held f = record { ia = f.ia; among = behind_in ia ias f.ia f.among; is = f.is; well = f.well; read = f.read }

  here : (ia : IaContent) (ias : List IaContent) (held : ItemSaid) → Contains (items_if_of ask ia) held → FoundIn ask (ia ∷ ias) held
  here ia ias held among =
      let step : Contains (items_if_of ask ia) held → FoundIn ask (ia ∷ ias) held =
      split (is_for ask ia)
      (λ t. rw t (λ has. readable ((of_decides ask ia).0 t) has))
      (λ f. rw f (λ has. absurd (none_in held has))) in
      step among
    where
      readable : IsOf ask.kind ask.iaid ia → Contains (items_read ia) held → FoundIn ask (ia ∷ ias) held
      readable is = split (is_readable ia)
          (λ t. rw t (λ has. record {
            ia = ia;
            among = front_in ia ias;
            is = is;
            well = (well_decides ia).0 t;
            read = read_among ia.kind ia.items held has;
          }))
          (λ f. rw f (λ has. absurd (none_in held has)))

  found_in : (ias : List IaContent) (held : ItemSaid) → Contains (all_items ask ias) held → FoundIn ask ias held
  found_in [] held among = absurd (none_in held among)
  found_in (ia ∷ ias) held among = elim (Contains-append_cases (items_if_of ask ia) (all_items ask ias) held among) [
    | inl first ↦ here ia ias held first
    | inr rest ↦ further ia ias held (found_in ias held rest)
  ]

  of_ia : (ia : IaContent) (held : ItemSaid) → IsOf ask.kind ask.iaid ia → IsWell ia → ReadIn ia.kind ia.items held
      → Contains (items_if_of ask ia) held
  of_ia ia held is well r =
      let one = (of_decides ask ia).1 is in
      let two = (well_decides ia).1 well in
      let among = kept_at ia.kind r.said r.may ia.items r.among.0 r.among.1 r.among.2 in
      rw (one, two) (subst (λ (h : ItemSaid). Contains (filter_map (read_item ia.kind) ia.items) h) (sym r.is) among)

  among_at : (ia : IaContent) (held : ItemSaid) → Contains (items_if_of ask ia) held → (ias : List IaContent) (k : ℕ) → k < length ias
      → get_or ias k ia ≡ ia → Contains (all_items ask ias) held
  among_at ia held has [] k less is = absurd (omega (arith, less))
  among_at ia held has (other ∷ ias) zero less is =
      Contains-append_left (items_if_of ask other) (all_items ask ias) held
      (subst (λ (x : IaContent). Contains (items_if_of ask x) held) (sym is) has)
  among_at ia held has (other ∷ ias) (suc k) less is =
      Contains-append_right (items_if_of ask other) (all_items ask ias) held (among_at ia held has ias k (omega (arith, less)) is)

-- ---- what a message has

pub record HasLasting (ask : IaAsk) (net : Net6) (came now : ℕ) (message : Content6) : Type 0 where
  pub has : HasItem ask net message
  pub some : 0 < has.said.valid
  pub valid : IsValid came has.said.valid now

module _ (ask : IaAsk) (net : Net6) (came now : ℕ) (message : Content6) where
  pub lasting_of : GivenIn came net now (items_heard ask message) → HasLasting ask net came now message
  lasting_of g =
      let found = found_in ask (ias_in message.options) g.said g.among in
      let valid : g.said.valid ≡ found.read.said.valid =
      ap (λ (x : ItemSaid). x.valid) found.read.is ∙ valid_as found.ia.kind found.read.said in
      let net_is : (cleared found.ia.kind found.read.said).net ≡ net = ap (λ (x : ItemSaid). x.net) (sym found.read.is) ∙ g.item in
      record {
        has = record {
          ia = found.ia;
          among = found.among;
          is = found.is;
          well = found.well;
          said = found.read.said;
          of_ia = found.read.among;
          may = found.read.may;
          item = subst (λ (n : Net6). IsHeldAs found.ia.kind found.read.said.net n) net_is (held_as found.ia.kind found.read.said);
        };
        some = subst (λ (v : ℕ). 0 < v) valid g.some;
        valid = subst (λ (v : ℕ). IsValid came v now) valid g.valid;
      }

  pub given_of : HasLasting ask net came now message → GivenIn came net now (items_heard ask message)
  given_of h =
      let has = h.has in
      let kind : IaKind = has.ia.kind in
      let held : ItemSaid = record { net = net; preferred = has.said.preferred; valid = has.said.valid } in
      let is : held ≡ cleared kind has.said = held_is kind has.said held has.item refl refl in
      record {
        said = held;
        among =
            among_at ask has.ia held
            (of_ia ask has.ia held has.is has.well (record { said = has.said; among = has.of_ia; may = has.may; is = is }))
            (ias_in message.options) has.among.0 has.among.1 has.among.2;
        item = refl;
        some = h.some;
        valid = h.valid;
      }
