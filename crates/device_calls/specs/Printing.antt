-- Lines that were appended to a text, each within the types that hold it.
use Rattle.std.specs.Prelude.{ℕ, ◌≡◌, List, ◌++◌}
use Rattle.typed_lines.specs.ScriptModel.Lines.{Line, lines_text}
use Rattle.typed_lines.specs.TypedLines.{AreTyped}

pub record Prints (old new : List ℕ) (lines : List Line) : Type 0 where
  pub appended : new ≡ old ++ lines_text lines
  pub typed : AreTyped lines
