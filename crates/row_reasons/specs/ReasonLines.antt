-- Which lines are said of a life, as it was by the end of its last judged turn.
use Rattle.std.specs.Prelude.{ℕ, List, [], ◌∷◌, map, length, flat_map, Option, Some, None, if◌then◌else◌}
use Rattle.std.specs.List.{filter_map}
use Rattle.std.specs.Option.{option_map}
use Rattle.world.specs.declared.rows.HostRow.{HostRow}
use Rattle.audit_words.specs.EvidenceWords.Entries.{Entry}
use Rattle.audit_words.specs.EvidenceWords.Inputs.{Site}
use Rattle.transcript_audit.specs.AuditModel.Auditing.{Living, site_in}
use Rattle.row_reasons.specs.Finding.{row_reason}
use Rattle.row_reasons.specs.declared.line.BasisLine.{BasisLine}
use Rattle.row_reasons.specs.declared.reason.Reason.{Reason}

-- a life as it was by the end of its last judged turn, and its number
pub record LifeJudged : Type 0 where
  pub number : ℕ
  pub living : Living

-- the turns up to that one, it first
abbrev pub past_of : Living → List Entry
past_of living = living.entry ∷ living.past

abbrev pub basis_line : (life turn : ℕ) → HostRow → Reason → BasisLine
basis_line life turn row reason = record { life = life; turn = turn; row = row; reason = reason }

abbrev pub line_at : (life turn : ℕ) → List Site → List Entry → HostRow → Option BasisLine
line_at life turn sites past row = option_map (basis_line life turn row) (row_reason sites past row)

-- the opening is turn 0
abbrev pub line_in : LifeJudged → HostRow → Option BasisLine
line_in life row =
    line_at life.number (length life.living.past) (map (site_in life.living) life.living.managed)
    (past_of life.living) row

-- a line for each address that was shown after that turn, in row order
abbrev pub lines_of : LifeJudged → List BasisLine
lines_of life = filter_map (line_in life) life.living.rows

abbrev pub said_of : List LifeJudged → List BasisLine
said_of lives = flat_map lines_of lives

-- ---- the last judged turn

-- The turn that goes on is over. It is judged where no call of the host failed in it.
abbrev pub judged_now : Option Living → Option Living → Option Living
judged_now None before = before
judged_now (Some living) before = if living.failed then before else Some living

abbrev pub life_judged : (number : ℕ) → Option Living → List LifeJudged
life_judged number None = []
life_judged number (Some living) = record { number = number; living = living } ∷ []
