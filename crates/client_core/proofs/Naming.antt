-- One more interface has its index.
use Rattle.std.proofs.Common.{ℕ, ◌≡◌, ◌<◌, Bool, true, false, ◌&&◌, ◌||◌, ◌⊎◌, inl, inr, List, [], ◌∷◌, ◌++◌, zero, suc, get_or, length, nat_eq, refl, sym, ap, ◌∙◌, arith}
use lib.ListN.{replicate}
use Rattle.std.proofs.lemmas.Bool.{eq-eqb, eqb-true, cases_eq}
use Rattle.client_core.specs.declared.named.Named.{Named}
use Rattle.client_core.specs.declared.places.Places.{Places}
use Rattle.client_core.specs.Names.{named_as, is_named, AreNamed}
use Rattle.client_core.specs.Places.{has, no_places}
use Rattle.client_core.proofs.Sets.{none_has}

off : (b : Bool) → (b ≡ true → ⊥) → b ≡ false
off true never = absurd (never refl)
off false never = refl

turned : (a b : ℕ) → nat_eq a b ≡ nat_eq b a
turned a b = by (cases_eq a b)
  where
    by : (a ≡ b) ⊎ (a ≡ b → ⊥) → nat_eq a b ≡ nat_eq b a
    by (inl e) = eq-eqb a b e ∙ sym (eq-eqb b a (sym e))
    by (inr apart) = off (nat_eq a b) (λ e. apart (eqb-true a b e)) ∙ sym (off (nat_eq b a) (λ e. apart (sym (eqb-true b a e))))

-- the interface at a place has the index that stands there
pub named_at : (indices : List ℕ) (place index : ℕ) → place < length indices → is_named indices place index ≡ nat_eq (get_or indices place 0) index
named_at [] place index lt = absurd (omega arith)
named_at (first ∷ indices) zero index lt = refl
named_at (first ∷ indices) (suc place) index lt = named_at indices place index (omega arith)

last_one : (indices : List ℕ) (last index : ℕ) → is_named (indices ++ last ∷ []) (length indices) index ≡ nat_eq last index
last_one [] last index = refl
last_one (first ∷ indices) last index = last_one indices last index

not_yet : (indices : List ℕ) (index : ℕ) → is_named indices (length indices) index ≡ false
not_yet [] index = refl
not_yet (first ∷ indices) index = not_yet indices index

others : (indices : List ℕ) (last place index : ℕ) → (place ≡ length indices → ⊥) → is_named (indices ++ last ∷ []) place index ≡ is_named indices place index
others [] last zero index apart = absurd (apart refl)
others [] last (suc place) index apart = refl
others (first ∷ indices) last zero index apart = refl
others (first ∷ indices) last (suc place) index apart = others indices last place index (λ e. apart (ap suc e))

one_more : (indices : List ℕ) (last place index : ℕ)
    → is_named (indices ++ last ∷ []) place index ≡ ((nat_eq index last && nat_eq place (length indices)) || is_named indices place index)
one_more indices last place index = by (cases_eq place (length indices))
  where
    here : (b : Bool) → b ≡ ((b && true) || false)
    here true = refl
    here false = refl

    there : (c b : Bool) → b ≡ ((c && false) || b)
    there true b = refl
    there false b = refl

    by : (place ≡ length indices) ⊎ (place ≡ length indices → ⊥)
        → is_named (indices ++ last ∷ []) place index ≡ ((nat_eq index last && nat_eq place (length indices)) || is_named indices place index)
    by (inl same) =
        ap (λ (at : ℕ). is_named (indices ++ last ∷ []) at index) same ∙ last_one indices last index ∙ turned last index ∙ here (nat_eq index last)
        ∙ sym (ap (λ (b : Bool). (nat_eq index last && b) || is_named indices place index) (eq-eqb place (length indices) same)
        ∙ ap (λ (b : Bool). (nat_eq index last && true) || b) (ap (λ (at : ℕ). is_named indices at index) same ∙ not_yet indices index))
    by (inr apart) =
        others indices last place index apart ∙ there (nat_eq index last) (is_named indices place index)
        ∙ sym
        (ap (λ (b : Bool). (nat_eq index last && b) || is_named indices place index)
        (off (nat_eq place (length indices)) (λ e. apart (eqb-true place (length indices) e))))

pub named_more : (indices : List ℕ) (last place : ℕ) (old new : Named) → place ≡ length indices
    → ((index at : ℕ) → has (named_as new index) at ≡ ((nat_eq index last && nat_eq at place) || has (named_as old index) at))
    → AreNamed indices old → AreNamed (indices ++ last ∷ []) new
named_more indices last place old new long adds named index at lt =
    adds index at ∙ ap (λ (b : Bool). (nat_eq index last && nat_eq at place) || b) (named index at lt)
    ∙ ap (λ (n : ℕ). (nat_eq index last && nat_eq at n) || is_named indices at index) long
    ∙ sym (one_more indices last at index)

pub named_none : (n : ℕ) (places : Places) (index place : ℕ) → places ≡ no_places → place < 64 → has (get_or (replicate n places) index no_places) place ≡ false
named_none n places index place none near = ap (λ (all : Places). has all place) (alike n index) ∙ none_has place near
  where
    alike : (n index : ℕ) → get_or (replicate n places) index no_places ≡ no_places
    alike zero index = refl
    alike (suc n) zero = none
    alike (suc n) (suc index) = alike n index
