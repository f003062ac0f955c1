-- What the words ask of the program itself.
use Rattle.std.specs.Prelude.{ℕ, ◌≡◌, ◌≢◌, List, [], ◌∷◌, codes}
use Rattle.dhcpcd_prog.specs.declared.questions.Question.{Question}
use Rattle.dhcpcd_prog.specs.declared.questions.Question.TheVariants as question

-- help and the version are asked by their word alone; all other words are work
abbrev pub IsAsked : Question → List (List ℕ) → Type 0
IsAsked question.Help words = words ≡ codes "--help" ∷ []
IsAsked question.Version words = words ≡ codes "--version" ∷ []
IsAsked question.Work words = (words ≢ codes "--help" ∷ []) × (words ≢ codes "--version" ∷ [])
