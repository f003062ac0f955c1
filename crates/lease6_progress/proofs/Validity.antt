-- What is valid at a moment stays so where what is over at an earlier one goes.
use Rattle.std.proofs.Common.{◌≡◌, ℕ, ◌+◌, ◌≤◌, Bool, true, false, cond, not, List, [], ◌∷◌, ◌++◌, filter, find, Option, Some, None, nat_le, inl, inr, refl, sym, subst, arith}
use Rattle.std.proofs.lemmas.Bool.Decides.{nat_tests}
use Rattle.std.proofs.lemmas.Bool.{both_ways, cond_both, or_cases, or_left, or_right}
use Rattle.std.specs.List.{list_any}
use Rattle.std.specs.Option.{option_map_or}
use Rattle.net_types.proofs.CaseLaws.{split}
use Rattle.lease6_text.specs.declared.lease.Item6.{Item6}
use Rattle.lease6_text.specs.Leases.{IaLeaseContent}
use Rattle.lease6_text.specs.LineParts.{is_ia}
use Rattle.v6_client.specs.V6Items.declared.asks.IaAsk.{IaAsk}
use Rattle.v6_client.specs.V6Items.declared.scope.Cause6.TheVariants.{Lapse}
use Rattle.v6_client.specs.V6Items.Items.{asked_at, is_live, is_nonempty, staying, thinned, without}
use Rattle.lease6_progress.specs.Staying.{IsAhead, IsValidUntil, has_valid}

-- ---- lists

any_each : {X : Type 0} (p q : X → Bool) → ((x : X) → p x ≡ true → q x ≡ true) → (xs : List X) → list_any p xs ≡ true → list_any q xs ≡ true
any_each p q to [] h = absurd cc
any_each p q to (x ∷ xs) h = elim (or_cases (p x) (list_any p xs) h) [
  | inl e ↦ or_left (q x) (list_any q xs) (to x e)
  | inr e ↦ or_right (q x) (list_any q xs) (any_each p q to xs e)
]

any_filtered : (p q : Item6 → Bool) → ((x : Item6) → q x ≡ true → p x ≡ true) → (xs : List Item6) → list_any q xs ≡ true
    → list_any q (filter p xs) ≡ true
any_filtered p q to [] h = h
any_filtered p q to (x ∷ xs) h =
    cond_both (p x) (x ∷ filter p xs) (filter p xs) (λ (l : List Item6). list_any q l ≡ true)
    (λ t. elim (or_cases (q x) (list_any q xs) h) [
      | inl e ↦ or_left (q x) (list_any q (filter p xs)) e
      | inr e ↦ or_right (q x) (list_any q (filter p xs)) (any_filtered p q to xs e)
    ])
    (λ f. elim (or_cases (q x) (list_any q xs) h) [
      | inl e ↦ absurd (both_ways (p x) f (to x e))
      | inr e ↦ any_filtered p q to xs e
    ])

any_nonempty : (q : Item6 → Bool) (xs : List Item6) → list_any q xs ≡ true → is_nonempty xs ≡ true
any_nonempty q [] h = absurd cc
any_nonempty q (x ∷ xs) h = refl

-- ---- items

over_later : (v at later : ℕ) → at ≤ later → not (nat_le v later) ≡ true → not (nat_le v at) ≡ true
over_later v at later le h = grind (arith, nat_tests)

live_before : (at later : ℕ) → at ≤ later → (item : Item6) → is_live later item ≡ true → is_live at item ≡ true
live_before at later le item h = by_end item.valid h
  where
    by_end : (valid : Option ℕ) → is_live later (record item { valid = valid }) ≡ true → is_live at (record item { valid = valid }) ≡ true
    by_end None h = refl
    by_end (Some v) h = over_later v at later le h

pub valid_before : (asks : List IaAsk) (ias : List IaLeaseContent) (at later : ℕ) → at ≤ later → has_valid asks later ias ≡ true
    → has_valid asks at ias ≡ true
valid_before asks ias at later le h =
    any_each (λ ask. list_any (is_live later) (asked_at ask ias)) (λ ask. list_any (is_live at) (asked_at ask ias))
    (λ ask e. any_each (is_live later) (is_live at) (live_before at later le) (asked_at ask ias) e) asks h

-- ---- IAs

abbrev items_of : Option IaLeaseContent → List Item6
items_of found = option_map_or (λ ia. ia.items) found []

module _ (at later : ℕ) (le : at ≤ later) (ask : IaAsk) where
  abbrev Live : List Item6 → Type 0
  Live items = list_any (is_live later) items ≡ true

  abbrev is_its : IaLeaseContent → Bool
  is_its ia = is_ia (ask.kind, ask.iaid) ia

  abbrev LiveIn : List IaLeaseContent → Type 0
  LiveIn ias = Live (asked_at ask ias)

  abbrev left : IaLeaseContent → IaLeaseContent
  left ia = record { kind = ia.kind; iaid = ia.iaid; items = staying (Lapse at) ia.kind ia.items }

  left_live : (ia : IaLeaseContent) → Live ia.items → Live (staying (Lapse at) ia.kind ia.items)
  left_live ia h = any_filtered (is_live at) (is_live later) (live_before at later le) ia.items h

  here : (ia : IaLeaseContent) (ias : List IaLeaseContent) → is_its ia ≡ true → Live ia.items → LiveIn (thinned (Lapse at) ia ++ without (Lapse at) ias)
  here ia ias its h =
      let some : is_nonempty (staying (Lapse at) ia.kind ia.items) ≡ true =
      any_nonempty (is_live later) (staying (Lapse at) ia.kind ia.items) (left_live ia h) in
      subst (λ (b : Bool). LiveIn (cond b (left ia ∷ []) [] ++ without (Lapse at) ias)) (sym some)
      (subst (λ (b : Bool). Live (items_of (cond b (Some (left ia)) (find is_its (without (Lapse at) ias))))) (sym its) (left_live ia h))

  elsewhere : (ia : IaLeaseContent) (ias : List IaLeaseContent) → is_its ia ≡ false → LiveIn (without (Lapse at) ias)
      → LiveIn (thinned (Lapse at) ia ++ without (Lapse at) ias)
  elsewhere ia ias other h =
      cond_both (is_nonempty (staying (Lapse at) ia.kind ia.items)) (left ia ∷ []) []
      (λ (l : List IaLeaseContent). LiveIn (l ++ without (Lapse at) ias))
      (λ some. subst (λ (b : Bool). Live (items_of (cond b (Some (left ia)) (find is_its (without (Lapse at) ias))))) (sym other) h)
      (λ none. h)

  stays_live : (ias : List IaLeaseContent) → LiveIn ias → LiveIn (without (Lapse at) ias)
  stays_live [] h = h
  stays_live (ia ∷ ias) h =
      split (is_its ia)
      (λ its. here ia ias its
      (subst (λ (b : Bool). Live (items_of (cond b (Some ia) (find is_its ias)))) its h))
      (λ other. elsewhere ia ias other (stays_live ias
      (subst (λ (b : Bool). Live (items_of (cond b (Some ia) (find is_its ias)))) other h)))

pub stays_valid : (asks : List IaAsk) (ias : List IaLeaseContent) (at later : ℕ) → at ≤ later → has_valid asks later ias ≡ true
    → has_valid asks later (without (Lapse at) ias) ≡ true
stays_valid asks ias at later le h =
    any_each (λ ask. list_any (is_live later) (asked_at ask ias)) (λ ask. list_any (is_live later) (asked_at ask (without (Lapse at) ias)))
    (λ ask e. stays_live at later le ask ias e) asks h

-- ---- until a moment

-- what is asked at that moment may still be answered
abbrev pub IsStill : (at wait : ℕ) → (asked : Option ℕ) → Type 0
IsStill at wait None = Unit {0}
IsStill at wait (Some asked) = at ≤ asked + wait

sum_over : (at asked wait : ℕ) → at ≤ asked → at ≤ asked + wait
sum_over at asked wait h = omega arith

further : (n m : ℕ) → n ≤ n + m
further n m = omega arith

further_back : (n m : ℕ) → m ≤ n + m
further_back n m = omega arith

pub still_ahead : (at wait : ℕ) (asked : Option ℕ) → IsAhead at asked → IsStill at wait asked
still_ahead at wait None h = tt
still_ahead at wait (Some asked) h = sum_over at asked wait h

-- it is so at each moment before
pub valid_now : (asks : List IaAsk) (wait : ℕ) (asked : Option ℕ) (ias : List IaLeaseContent) (at : ℕ) → IsStill at wait asked
    → IsValidUntil asks wait asked ias → has_valid asks at ias ≡ true
valid_now asks wait None ias at still h = h at
valid_now asks wait (Some asked) ias at still h = valid_before asks ias at (asked + wait) still h

-- and so of items of which all are left that are valid
pub valid_after : (asks : List IaAsk) (wait : ℕ) (asked : Option ℕ) (ias more : List IaLeaseContent) (at : ℕ) → IsStill at wait asked
    → ((later : ℕ) → at ≤ later → has_valid asks later ias ≡ true → has_valid asks later more ≡ true)
    → IsValidUntil asks wait asked ias → IsValidUntil asks wait asked more
valid_after asks wait None ias more at still live h =
    λ moment. valid_before asks more moment (at + moment) (further_back at moment) (live (at + moment) (further at moment) (h (at + moment)))
valid_after asks wait (Some asked) ias more at still live h = live (asked + wait) still h
