-- What the lines of a life are to each other: a listing is followed by its rows, rows stand nowhere else, and moments
-- don't fall.
use Rattle.std.specs.Prelude.{◌≡◌, ℕ, ◌≤◌, Bool, true, false, List, [], ◌∷◌, length, Option, Some, None, IsTrue}
use Rattle.std.specs.List.{AllByRecursion}
use Rattle.std.specs.Ordering.{is_lt}
use Rattle.world.specs.declared.rows.HostRow.{HostRow}
use Rattle.world.specs.RowOrder.{row_cmp}
use Rattle.script_model.specs.Lines.{Line, Start}
use Rattle.transcript_lines.specs.declared.role.Role.{Role}
use Rattle.transcript_lines.specs.declared.role.Role.TheVariants as roles
use Rattle.transcript_lines.specs.Roles.{role_of}
use Rattle.transcript_model.specs.Told.{LifeTold, lines_within}

-- ---- rows

abbrev pub row_before : Role → List HostRow → List HostRow
row_before (roles.Row row) rows = row ∷ rows
row_before _ rows = []

-- the rows of the lines in front
abbrev pub rows_in_front : List Line → List HostRow
rows_in_front [] = []
rows_in_front (line ∷ lines) = row_before (role_of line) (rows_in_front lines)

abbrev pub comes_after : Option HostRow → HostRow → Bool
comes_after None row = true
comes_after (Some last) row = is_lt (row_cmp last row)

-- each row comes after the one before it in row order, and the first after the last one
abbrev pub Rise : Option HostRow → List HostRow → Type 0
Rise last [] = Unit {0}
Rise last (row ∷ rows) = IsTrue (comes_after last row) × Rise (Some row) rows

-- which rows stand after a line
abbrev pub AreAsked : Role → List HostRow → Type 0
AreAsked (roles.Listing count) rows = (length rows ≡ count) × Rise None rows
AreAsked (roles.Row row) rows = Unit {0}
AreAsked _ rows = rows ≡ []

abbrev pub FitListings : List Line → Type 0
FitListings [] = Unit {0}
FitListings (line ∷ lines) = AreAsked (role_of line) (rows_in_front lines) × FitListings lines

-- ---- moments

abbrev pub moment_before : Role → List ℕ → List ℕ
moment_before (roles.Turn at) moments = at ∷ moments
moment_before _ moments = moments

abbrev pub moments_in : List Line → List ℕ
moments_in [] = []
moments_in (line ∷ lines) = moment_before (role_of line) (moments_in lines)

abbrev pub NeverFall : ℕ → List ℕ → Type 0
NeverFall now [] = Unit {0}
NeverFall now (at ∷ moments) = (now ≤ at) × NeverFall at moments

-- ---- a life

-- a line after the start or after that of a turn
abbrev pub follows : Role → Bool
follows (roles.Listing count) = true
follows (roles.Row row) = true
follows roles.Other = true
follows _ = false

abbrev pub Follows : Line → Type 0
Follows line = IsTrue (follows (role_of line))

abbrev pub AllFollow : List Line → Type 0
AllFollow lines = AllByRecursion Follows lines

pub record FitsLife (life : LifeTold) : Type 0 where
  pub opening : AllFollow life.opening
  pub turns : AllByRecursion (λ turn. AllFollow turn.lines) life.turns
  pub listings : FitListings (Start life.begin ∷ lines_within life)
  pub moments : NeverFall life.begin.at (moments_in (lines_within life))
