-- What the client reads of a server's message is what the message gives.
use Rattle.std.proofs.Common.{◌≡◌, ℕ, zero, suc, ◌<◌, ◌≤◌, ◌⊎◌, inl, inr, Bool, true, cond, ◌&&◌, List, [], ◌∷◌, ◌++◌, length, get_or, Option, Some, None, refl, sym, ap, ◌∙◌, subst, arith, leb}
use Rattle.std.specs.List.{Contains, list_any}
use Rattle.std.specs.Option.{option_and_then}
use Rattle.std.specs.Prelude.{◌==◌}
use Rattle.std.proofs.lemmas.Bool.{and_parts, and_from, eqb-true, eq-eqb, leb-true, le-leb, or_cases, or_left, or_right}
use Rattle.net_types.proofs.CaseLaws.{split}
use Rattle.v6_options.specs.declared.ia.IaKind.{IaKind}
use Rattle.v6_options.specs.declared.ia.ItemSaid.{ItemSaid}
use Rattle.v6_options.specs.Duids.{duid_in}
use Rattle.v6_options.specs.Ias.{IaContent, ias_in}
use Rattle.v6_items.specs.declared.asks.IaAsk.{IaAsk}
use Rattle.v6_items.specs.Reading.{cleared, front_items, ia_for, is_no_binding, is_read, is_readable, is_unbound, saids_of, serves_by, some_read, some_served}
use Rattle.v6_client_laws.specs.GivenItems.{GivesItem, GivesSome, HasNoBinding, IsHeldAs, IsOfFirst}
use Rattle.v6_client_laws.specs.GivenLaws.{BindingsAreKnown, ItemsAreGiven, MessagesServe, ServersAreNamed}
use Rattle.v6_client_laws.proofs.FirstIas.{first_found, found_first}
use Rattle.v6_client_laws.proofs.FirstItems.{Picked, behind_in, first_read, front_in, kept, none_in, picked}
use Rattle.v6_client_laws.proofs.ItemTests.{held_as, held_is, may_decides, preferred_as, valid_as, well_decides}

-- ---- an item

module _ (ask : IaAsk) (ias : List IaContent) where
  given_by : (ia : IaContent) (held : ItemSaid) → ia_for ask ias ≡ Some ia → is_readable ia ≡ true → Picked ia.kind 4 ia.items held
      → GivesItem ask.kind ask.iaid ias held
  given_by ia held is readable p = record {
    ia = ia;
    first = first_found ask ias ia is;
    well = (well_decides ia).0 readable;
    said = p.said;
    among = record { before = p.before; after = p.after; cut = p.cut; may = p.may; number = p.number; so_many = p.so_many; few = p.few };
    net = subst (λ (h : ItemSaid). IsHeldAs ia.kind p.said.net h.net) (sym p.is) (held_as ia.kind p.said);
    preferred = ap (λ (h : ItemSaid). h.preferred) p.is ∙ preferred_as ia.kind p.said;
    valid = ap (λ (h : ItemSaid). h.valid) p.is ∙ valid_as ia.kind p.said;
  }

  given_of : (found : Option IaContent) (held : ItemSaid) → ia_for ask ias ≡ found → Contains (saids_of found) held
      → GivesItem ask.kind ask.iaid ias held
  given_of None held is among = absurd (none_in held among)
  given_of (Some ia) held is among =
      let step : Contains (saids_of (Some ia)) held → GivesItem ask.kind ask.iaid ias held =
      split (is_readable ia)
      (λ t. rw t (λ has. given_by ia held is t (picked ia.kind 4 ia.items held has.0 (has.1, has.2))))
      (λ f. rw f (λ has. absurd (none_in held has))) in
      step among

  -- what counts of an IA
  read_of : (ia : IaContent) → ia_for ask ias ≡ Some ia → is_readable ia ≡ true → saids_of (ia_for ask ias) ≡ first_read ia.kind 4 ia.items
  read_of ia is readable = ap saids_of is ∙ ap (λ b. cond b (front_items ia) []) readable

  read_item_of : (held : ItemSaid) → GivesItem ask.kind ask.iaid ias held → Contains (saids_of (ia_for ask ias)) held
  read_item_of held g =
      let is : held ≡ cleared g.ia.kind g.said = held_is g.ia.kind g.said held g.net g.preferred g.valid in
      let among : Contains (first_read g.ia.kind 4 g.ia.items) (cleared g.ia.kind g.said) =
      subst (λ (items : List ItemSaid). Contains (first_read g.ia.kind 4 items) (cleared g.ia.kind g.said)) (sym g.among.cut)
      (kept g.ia.kind g.said g.among.after g.among.may g.among.before g.among.number g.among.so_many 4 g.among.few) in
      let read : saids_of (ia_for ask ias) ≡ first_read g.ia.kind 4 g.ia.items =
      read_of g.ia (found_first ask ias g.ia g.first) ((well_decides g.ia).1 g.well) in
      subst (λ (saids : List ItemSaid). Contains saids held) (sym read)
      (subst (λ (h : ItemSaid). Contains (first_read g.ia.kind 4 g.ia.items) h) (sym is) among)

  -- ---- what the server doesn't know

  unknown : (found : Option IaContent) → ia_for ask ias ≡ found → is_unbound found ≡ true → HasNoBinding ask.kind ask.iaid ias
  unknown None is e = absurd cc
  unknown (Some ia) is e = record { ia = ia; first = first_found ask ias ia is; status = eqb-true ia.status 3 e }

  known : HasNoBinding ask.kind ask.iaid ias → is_unbound (ia_for ask ias) ≡ true
  known none = ap is_unbound (found_first ask ias none.ia none.first) ∙ eq-eqb none.ia.status 3 none.status

  -- ---- an IA that is served

  pub record SomeIn (items : List ItemSaid) : Type 0 where
    pub item : ItemSaid
    pub among : Contains items item

  some_first : (kind : IaKind) (n : ℕ) (items : List ItemSaid) → list_any (is_read kind) items ≡ true → SomeIn (first_read kind (suc n) items)
  some_first kind n [] e = absurd cc
  some_first kind n (item ∷ items) e =
      let step : list_any (is_read kind) (item ∷ items) ≡ true → SomeIn (first_read kind (suc n) (item ∷ items)) =
      split (is_read kind item)
      (λ t. rw t (λ any. record { item = cleared kind item; among = front_in (cleared kind item) (first_read kind n items) }))
      (λ f. rw f (λ any. some_first kind n items any)) in
      step e

  gives_some : (ia : IaContent) → ia_for ask ias ≡ Some ia → (is_readable ia ≡ true) × (some_read ia ≡ true)
      → GivesSome ask.kind ask.iaid ias
  gives_some ia is parts =
      let some : SomeIn (first_read ia.kind 4 ia.items) = some_first ia.kind 3 ia.items parts.1 in
      record {
        item = some.item;
        gives = given_of (Some ia) some.item is
            (subst (λ (b : Bool). Contains (cond b (front_items ia) []) some.item) (sym parts.0) some.among);
      }

  says : (found : Option IaContent) → ia_for ask ias ≡ found → serves_by found ≡ true
      → GivesSome ask.kind ask.iaid ias ⊎ HasNoBinding ask.kind ask.iaid ias
  says None is e = absurd cc
  says (Some ia) is e = elim (or_cases (is_no_binding ia) (is_readable ia && some_read ia) e) [
    | inl t ↦ inr (unknown (Some ia) is t)
    | inr t ↦ inl (gives_some ia is (and_parts (is_readable ia) (some_read ia) t))
  ]

  any_middle : {X : Type 0} (test : X → Bool) (before : List X) (x : X) (after : List X) → test x ≡ true
      → list_any test (before ++ x ∷ after) ≡ true
  any_middle test [] x after t = or_left (test x) (list_any test after) t
  any_middle test (y ∷ before) x after t = or_right (test y) (list_any test (before ++ x ∷ after)) (any_middle test before x after t)

  some_is_read : (ia : IaContent) (said : ItemSaid) → IsOfFirst ia.kind ia.items said → some_read ia ≡ true
  some_is_read ia said among =
      ap (list_any (is_read ia.kind)) among.cut
      ∙ any_middle (is_read ia.kind) among.before said among.after ((may_decides ia.kind said).1 among.may)

  said_served : GivesSome ask.kind ask.iaid ias ⊎ HasNoBinding ask.kind ask.iaid ias → serves_by (ia_for ask ias) ≡ true
  said_served (inl some) =
      let g : GivesItem ask.kind ask.iaid ias some.item = some.gives in
      ap serves_by (found_first ask ias g.ia g.first)
      ∙ or_right (is_no_binding g.ia) (is_readable g.ia && some_read g.ia)
      (and_from (is_readable g.ia) (some_read g.ia) ((well_decides g.ia).1 g.well) (some_is_read g.ia g.said g.among))
  said_served (inr none) =
      ap serves_by (found_first ask ias none.ia none.first)
      ∙ or_left (is_no_binding none.ia) (is_readable none.ia && some_read none.ia) (eq-eqb none.ia.status 3 none.status)

pub items_are_given : ItemsAreGiven
items_are_given ask ias held = record {
  sound = λ among. given_of ask ias (ia_for ask ias) held refl among;
  whole = λ g. read_item_of ask ias held g;
}

pub bindings_are_known : BindingsAreKnown
bindings_are_known ask ias = (λ e. unknown ask ias (ia_for ask ias) refl e, λ none. known ask ias none)

-- ---- messages

pub record Met {X : Type 0} (test : X → Bool) (xs : List X) : Type 0 where
  pub x : X
  pub among : Contains xs x
  pub passes : test x ≡ true

pub met : {X : Type 0} (test : X → Bool) (xs : List X) → list_any test xs ≡ true → Met test xs
met test [] e = absurd cc
met test (x ∷ xs) e = elim (or_cases (test x) (list_any test xs) e) [
  | inl t ↦ record { x = x; among = front_in x xs; passes = t }
  | inr later ↦ further (met test xs later)
]
  where
    further : Met test xs → Met test (x ∷ xs)
    further m = record { x = m.x; among = behind_in x xs m.x m.among; passes = m.passes }

any_at : {X : Type 0} (test : X → Bool) (xs : List X) (x : X) (k : ℕ) → (k < length xs) × (get_or xs k x ≡ x) → test x ≡ true
    → list_any test xs ≡ true
any_at test [] x k at t = absurd (let less = at.0 in omega (arith, less))
any_at test (y ∷ ys) x zero at t = or_left (test y) (list_any test ys) (subst (λ z. test z ≡ true) (sym at.1) t)
any_at test (y ∷ ys) x (suc k) at t =
    let less = at.0 in or_right (test y) (list_any test ys) (any_at test ys x k (omega (arith, less), at.1) t)

pub messages_serve : MessagesServe
messages_serve asks message = (
  λ e.
      let parts = and_parts (message.status == 0) (some_served asks (ias_in message.options)) e in
      let one = met (λ ask. serves_by (ia_for ask (ias_in message.options))) asks parts.1 in
      record {
        went = eqb-true message.status 0 parts.0;
        ask = one.x;
        asked = one.among;
        says = says one.x (ias_in message.options) (ia_for one.x (ias_in message.options)) refl one.passes;
      },
  λ s.
      and_from (message.status == 0) (some_served asks (ias_in message.options)) (eq-eqb message.status 0 s.went)
      (any_at (λ ask. serves_by (ia_for ask (ias_in message.options))) asks s.ask s.asked.0 (s.asked.1, s.asked.2)
      (said_served s.ask (ias_in message.options) s.says)),
)

-- ---- the server

named : (told : Option (List ℕ)) (server : List ℕ) → option_and_then duid_in told ≡ Some server
    → (told ≡ Some server) × ((2 ≤ length server) × (length server ≤ 130))
named None server e = absurd cc
named (Some bytes) server e =
    let step : duid_in bytes ≡ Some server → (Some bytes ≡ Some server) × ((2 ≤ length server) × (length server ≤ 130)) =
    split (leb 2 (length bytes) && leb (length bytes) 130)
    (λ t. rw t (λ same.
    let parts = and_parts (leb 2 (length bytes)) (leb (length bytes) 130) t in (
      same,
      subst (λ (s : List ℕ). (2 ≤ length s) × (length s ≤ 130)) (some_is bytes server same)
          (leb-true 2 (length bytes) parts.0, leb-true (length bytes) 130 parts.1),
    )))
    (λ f. rw f (λ same. absurd cc)) in
    step e
  where
    some_is : (x y : List ℕ) → Some x ≡ Some y → x ≡ y
    some_is x y e = cc

pub servers_are_named : ServersAreNamed
servers_are_named message server = record {
  sound = λ e. let n = named message.server server e in record { is = n.0; long = n.1.0; short = n.1.1 };
  whole = λ n.
      ap (option_and_then duid_in) n.is
      ∙ ap (λ (b : Bool). cond b (Some server) None)
      (and_from (leb 2 (length server)) (leb (length server) 130) (le-leb 2 (length server) n.long) (le-leb (length server) 130 n.short));
}
