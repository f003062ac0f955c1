-- The lines that come of a text.
use Rattle.std.specs.Prelude.{◌≡◌, ℕ, List}
use Rattle.transcript_read.specs.Whole.{IsFollowedWhole}
use Rattle.row_reasons.specs.ReasonLines.{said_of}
use Rattle.row_reasons.specs.declared.line.BasisLine.{BasisLine}
use Rattle.audit_reasons.specs.Explaining.{Explaining, after, first}

pub record IsSaidOf (text : List ℕ) (lines : List BasisLine) : Type 0 where
  pub end : Explaining
  pub follows : IsFollowedWhole first after text end
  pub says : lines ≡ said_of end.ended
