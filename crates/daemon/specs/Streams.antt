-- What stands written, where that is told.
use Rattle.std.specs.Prelude.{ℕ, ◌≡◌, List, ◌++◌, take, Option, Some, None}
use Rattle.script_model.specs.Lines.{Line, lines_text}
use Rattle.typed_lines.specs.TypedLines.{AreTyped}

-- bytes were written
abbrev pub WritesBytes : Option (List ℕ) → Option (List ℕ) → List ℕ → Type 0
WritesBytes None new bytes = new ≡ None
WritesBytes (Some written) new bytes = new ≡ Some (written ++ bytes)

-- a front of the bytes was written
abbrev pub WritesSome : Option (List ℕ) → Option (List ℕ) → List ℕ → Type 0
WritesSome None new bytes = new ≡ None
WritesSome (Some written) new bytes = (n : ℕ) × (new ≡ Some (written ++ take n bytes))

-- lines were written, each within the types that hold it
pub record WritesLines (old new : Option (List ℕ)) (lines : List Line) : Type 0 where
  pub bytes : WritesBytes old new (lines_text lines)
  pub typed : AreTyped lines

-- lines were written whole, and then a front of the bytes of further lines
abbrev pub WritesFront : Option (List ℕ) → Option (List ℕ) → List Line → List Line → Type 0
WritesFront None new whole lines = new ≡ None
WritesFront (Some written) new whole lines =
    (n : ℕ) × (new ≡ Some ((written ++ lines_text whole) ++ take n (lines_text lines)))
