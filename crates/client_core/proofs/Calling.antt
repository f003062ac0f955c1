-- The places of the interfaces to which something comes.
use Rattle.std.proofs.Common.{ℕ, zero, suc, ◌≡◌, ◌+◌, ◌<◌, ◌≤◌, Bool, true, false, ◌&&◌, ◌||◌, ◌⊎◌, inl, inr, List, [], ◌∷◌, nat_eq, refl, sym, ap, ◌∙◌, arith}
use Rattle.std.specs.Prelude.{nat_le}
use Rattle.std.proofs.lemmas.Bool.{le-leb, lt-leb, eq-eqb, eqb-true, cases_eq, cases_lt}
use Rattle.script_model.specs.IfaceSets.{is_in}
use Rattle.world.specs.Rows.{IsInterface}
use Rattle.client_core.specs.declared.named.Named.{Named}
use Rattle.client_core.specs.declared.places.Places.{Places}
use Rattle.client_core.specs.Names.{AreNamed, is_named, named_as}
use Rattle.client_core.specs.Places.{has}
use Rattle.client_core.specs.Resting.{Finds}

-- an interface has one index
one_name : (indices : List ℕ) (index place other : ℕ) → is_named indices place index ≡ true → is_named indices place other ≡ nat_eq index other
one_name [] index place other here = let never : false ≡ true = here in absurd cc
one_name (first ∷ indices) index zero other here = ap (λ (one : ℕ). nat_eq one other) (eqb-true first index here)
one_name (first ∷ indices) index (suc place) other here = one_name indices index place other here

module _ (named : Named) (indices : List ℕ) (index place : ℕ) (are : AreNamed indices named) (near : place < 64)
    (here : is_named indices place index ≡ true) where
  -- the places of an index are those of the interfaces that have it
  has_name : (other : ℕ) → has (named_as named other) place ≡ nat_eq index other
  has_name other = are other place near ∙ one_name indices index place other here

-- ---- the input

pub named_there : (named : Named) (places : Places) (other : ℕ) → places ≡ named_as named other → Finds (λ _ index. nat_eq index other) named places
named_there named places other is indices index place are fits near here =
    ap (λ (all : Places). has all place) is ∙ has_name named indices index place are near here other

-- ---- frames that couldn't be sent, one index after another

off : (b : Bool) → (b ≡ true → ⊥) → b ≡ false
off true never = absurd (never refl)
off false never = refl

or_true : (b : Bool) → (b || true) ≡ true
or_true true = refl
or_true false = refl

or_false : (b : Bool) → (b || false) ≡ b
or_false true = refl
or_false false = refl

and_false : (b : Bool) → (b && false) ≡ false
and_false true = refl
and_false false = refl

-- those of a set with an index up to `before`
abbrev pub up_to : (unsent before : ℕ) → (place index : ℕ) → Bool
up_to unsent before place index = nat_le index before && is_in unsent index

below_next : (index before : ℕ) → (index ≡ before + 1 → ⊥) → nat_le index (before + 1) ≡ nat_le index before
below_next index before apart = by (cases_lt before index)
  where
    by : (before < index) ⊎ (index ≤ before) → nat_le index (before + 1) ≡ nat_le index before
    by (inl above) = lt-leb index (before + 1) (past (cases_lt (before + 1) index)) ∙ sym (lt-leb index before above)
      where
        past : (before + 1 < index) ⊎ (index ≤ before + 1) → before + 1 < index
        past (inl lt) = lt
        past (inr le) = let same : index ≡ before + 1 = omega arith in absurd (apart same)
    by (inr le) = le-leb index (before + 1) (omega arith) ∙ sym (le-leb index before le)

module _ (named : Named) (unsent before : ℕ) (old new : Places) (found : Finds (up_to unsent before) named old) where
  pub one_in : is_in unsent (before + 1) ≡ true → ((place : ℕ) → has new place ≡ (has old place || has (named_as named (before + 1)) place))
      → Finds (up_to unsent (before + 1)) named new
  one_in in_it grows indices index place are fits near here =
      grows place ∙ (λ i. found indices index place are fits near here i || has_name named indices index place are near here (before + 1) i)
      ∙ by (cases_eq index (before + 1))
    where
      by : (index ≡ before + 1) ⊎ (index ≡ before + 1 → ⊥)
          → (up_to unsent before place index || nat_eq index (before + 1)) ≡ up_to unsent (before + 1) place index
      by (inl same) =
          ap (λ (b : Bool). up_to unsent before place index || b) (eq-eqb index (before + 1) same) ∙ or_true (up_to unsent before place index)
          ∙ sym (ap (λ (b : Bool). b && is_in unsent index) (le-leb index (before + 1) (omega (arith, same))) ∙ ap (is_in unsent) same ∙ in_it)
      by (inr apart) =
          ap (λ (b : Bool). up_to unsent before place index || b) (off (nat_eq index (before + 1)) (λ e. apart (eqb-true index (before + 1) e)))
          ∙ or_false (up_to unsent before place index)
          ∙ sym (ap (λ (b : Bool). b && is_in unsent index) (below_next index before apart))

  pub one_out : is_in unsent (before + 1) ≡ false → Finds (up_to unsent (before + 1)) named old
  one_out out indices index place are fits near here = found indices index place are fits near here ∙ by (cases_eq index (before + 1))
    where
      by : (index ≡ before + 1) ⊎ (index ≡ before + 1 → ⊥) → up_to unsent before place index ≡ up_to unsent (before + 1) place index
      by (inl same) =
          let no : is_in unsent index ≡ false = ap (is_in unsent) same ∙ out in
          ap (λ (b : Bool). nat_le index before && b) no ∙ and_false (nat_le index before)
          ∙ sym (ap (λ (b : Bool). nat_le index (before + 1) && b) no ∙ and_false (nat_le index (before + 1)))
      by (inr apart) = ap (λ (b : Bool). b && is_in unsent index) (sym (below_next index before apart))
