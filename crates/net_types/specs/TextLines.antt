-- Texts of lines. Each line is ended by a line feed, and holds none.
use Rattle.std.specs.Prelude.{ℕ, List, [], ◌∷◌, ◌++◌, flat_map, Option, Some, None}
use Rattle.std.specs.List.{AllByRecursion}
use Rattle.net_types.specs.Cutting.{split_at_byte}
use Rattle.net_types.specs.Marks.{Lacks}

abbrev pub Line : Type 0
Line = List ℕ

abbrev pub ended : Line → List ℕ
ended line = line ++ 10 ∷ []

abbrev pub lines_text : List Line → List ℕ
lines_text lines = flat_map ended lines

abbrev pub AreLines : List Line → Type 0
AreLines lines = AllByRecursion (Lacks 10) lines

-- what stands at the front of a text: a line, bytes without a line feed, or nothing
pub data Front : Type 0 where
  Whole : Line → Front
  Unended : List ℕ → Front
  End : Front

abbrev pub front_by : List ℕ → Option (Line × List ℕ) → Front
front_by [] parts = End
front_by (byte ∷ rest) None = Unended (byte ∷ rest)
front_by (byte ∷ rest) (Some parts) = Whole parts.0

abbrev pub front_in : List ℕ → Front
front_in text = front_by text (split_at_byte 10 text)
