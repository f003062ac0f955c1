use Rattle.std.specs.Prelude.{List, [], ◌∷◌, ◌⊎◌}

-- What has happened is a list of entries, the newest first. A fact on an entry may look at the entries before it.

-- Some entry is as Q says, and each one after it as P says.
abbrev pub Since : {A : Type 0} → (A → List A → Type 0) → (A → List A → Type 0) → List A → Type 0
Since P Q [] = ⊥
Since P Q (e ∷ past) = Q e past ⊎ (P e past × Since P Q past)

-- Each entry is as P says.
abbrev pub Always : {A : Type 0} → (A → List A → Type 0) → List A → Type 0
Always P [] = Unit {0}
Always P (e ∷ past) = P e past × Always P past
