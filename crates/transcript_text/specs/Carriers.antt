-- One more number of a list.
use Rattle.std.specs.Prelude.{ℕ, Bool, true, false, List, ◌∷◌, decimal}

-- after a comma where another stands before it
abbrev pub next_text : Bool → ℕ → List ℕ
next_text false number = decimal number
next_text true number = 44 ∷ decimal number
