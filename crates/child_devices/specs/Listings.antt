-- Listings of the host's rows, as a script prints them.
use Rattle.std.specs.Prelude.{ℕ, ◌≡◌, List, [], ◌∷◌, ◌++◌, length}
use Rattle.world.specs.declared.rows.HostRow.{HostRow}
use Rattle.world.specs.RowOrder.{in_row_order}
use Rattle.script_model.specs.RowSpellings.{SpellsRow}

-- each line has its end
abbrev pub lines_text : List (List ℕ) → List ℕ
lines_text [] = []
lines_text (line ∷ lines) = line ++ 10 ∷ lines_text lines

-- a line for each row
abbrev pub SpellRows : List (List ℕ) → List HostRow → Type 0
SpellRows [] [] = Unit {0}
SpellRows [] (row ∷ rows) = ⊥
SpellRows (line ∷ lines) [] = ⊥
SpellRows (line ∷ lines) (row ∷ rows) = SpellsRow line row × SpellRows lines rows

-- All of a text is lines, and each is a row, none of them twice; the rows are kept in row order.
pub record IsListing (text : List ℕ) (kept : List HostRow) : Type 0 where
  pub lines : List (List ℕ)
  pub rows : List HostRow
  pub all : text ≡ lines_text lines
  pub spelled : SpellRows lines rows
  pub in_order : kept ≡ in_row_order rows
  pub once : length kept ≡ length rows
