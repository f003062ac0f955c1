use Rattle.std.proofs.Common.{List, [], ◌∷◌, inl, inr}
use Rattle.machine.specs.Since.{Since}

-- A weaker fact of the earlier entry.
pub since-map : {A : Type 0} (P Q R : A → List A → Type 0) → ((e : A) (earlier : List A) → Q e earlier → R e earlier)
    → (past : List A) → Since P Q past → Since P R past
since-map P Q R f [] h = h
since-map P Q R f (e ∷ past) h =
    elim h [ inl q ↦ inl (f e past q) | inr later ↦ inr (later.0, since-map P Q R f past later.1) ]
