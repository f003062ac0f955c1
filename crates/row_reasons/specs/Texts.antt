-- The lines that say why addresses may be held.
use Rattle.std.specs.Prelude.{ℕ, List, ◌++◌, codes, decimal, flat_map, Option, Some, None}
use Rattle.world.specs.RowText.{row_text}
use Rattle.basis_turns.specs.declared.leases.LeaseTurns.{LeaseTurns}
use Rattle.basis_turns.specs.declared.probes.ProbedTurns.{ProbedTurns}
use Rattle.basis_turns.specs.declared.walks.Basis.TheVariants.{Static, Lease4, Lease6, LinkLocal}
use Rattle.row_reasons.specs.declared.line.BasisLine.{BasisLine}
use Rattle.row_reasons.specs.declared.reason.Reason.{Reason}
use Rattle.row_reasons.specs.declared.reason.Reason.TheVariants.{Own, Kept, Share}

abbrev pub probes_text : ProbedTurns → List ℕ
probes_text turns =
    codes "probes " ++ decimal turns.probes.first ++ codes " " ++ decimal turns.probes.second ++ codes " "
    ++ decimal turns.probes.third ++ codes " fourth " ++ decimal turns.fourth

abbrev pub granting_text : LeaseTurns → List ℕ
granting_text turns =
    codes "lease4 request " ++ decimal turns.granting.request ++ codes " ack " ++ decimal turns.granting.ack

-- without probes where none are to be
abbrev pub lease_text : LeaseTurns → Option ProbedTurns → List ℕ
lease_text turns None = granting_text turns
lease_text turns (Some probed) = granting_text turns ++ codes " " ++ probes_text probed

abbrev pub reason_text : Reason → List ℕ
reason_text (Own Static) = codes "static"
reason_text (Own (Lease4 turns)) = lease_text turns turns.probed
reason_text (Own (Lease6 turns)) = codes "lease6 " ++ decimal turns.iaid ++ codes " reply " ++ decimal turns.reply
reason_text (Own (LinkLocal turns)) = codes "linklocal " ++ probes_text turns
reason_text Kept = codes "kept"
reason_text (Share upstream) = codes "share " ++ decimal upstream

-- a row is written as in a transcript
abbrev pub line_text : BasisLine → List ℕ
line_text line =
    codes "basis " ++ decimal line.life ++ codes " " ++ decimal line.turn ++ codes " " ++ row_text line.row ++ codes " "
    ++ reason_text line.reason ++ codes "\n"

abbrev pub lines_text : List BasisLine → List ℕ
lines_text lines = flat_map line_text lines
