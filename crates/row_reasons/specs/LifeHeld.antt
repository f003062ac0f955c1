-- What is held of what is kept of a life.
use Rattle.std.specs.Prelude.{◌≡◌, ◌≤◌, ℕ, if◌then◌else◌, List, [], length, take, Option, Some, None}
use Rattle.std.specs.Global.{Vec}
use Rattle.std.specs.Option.{option_map}
use Rattle.world.specs.declared.rows.HostRow.{HostRow}
use Rattle.transcript_audit.specs.AuditModel.Auditing.{Living}
use Rattle.transcript_audit.specs.AuditSites.Openings.{Opens}
use Rattle.transcript_audit.specs.AuditTurns.Goings.{Going, going_in}
use Rattle.audit_words.specs.Shown.{entry_shown}
use Rattle.transcript_audit.specs.AuditFollower.Holding.{IsPastOne}
use Rattle.basis_turns.specs.Turns.{shown_after}
use Rattle.basis_turns.specs.declared.shown_turn.ShownTurn.{ShownTurn}
use Rattle.row_reasons.specs.ReasonLines.{past_of}
use Rattle.row_reasons.specs.declared.lived.JudgedTurn.{JudgedTurn}
use Rattle.row_reasons.specs.declared.lived.Lived.{Lived}

-- a life before its turns
abbrev pub unturned : Living → Living
unturned living = record living { past = [] }

-- by the end of its last judged turn the life was this one
pub record IsJudgedTurn (lived : Lived) (judged : JudgedTurn) (living : Living) : Type 0 where
  pub opens : Opens lived.opening (unturned living)
  pub is_over : judged.count ≤ length lived.turns.items
  pub turns : shown_after [] (take judged.count lived.turns.items) ≡ past_of living
  pub number : judged.number ≡ length living.past
  pub rows : judged.rows.items ≡ living.rows

-- the last judged turn, after one of a number, with the rows shown after that if it is judged
abbrev pub turn_judged : (number count : ℕ) → Option (Vec HostRow) → Option JudgedTurn → Option JudgedTurn
turn_judged number count None before = before
turn_judged number count (Some rows) before = Some (record { number = number; count = count; rows = rows })

abbrev pub JudgedAs : Lived → Option JudgedTurn → Option Living → Type 0
JudgedAs lived None None = Unit {0}
JudgedAs lived (Some judged) (Some living) = IsJudgedTurn lived judged living
JudgedAs lived judged living = ⊥

-- The life's opening and its turns that are over are kept, and the last judged one of these.
pub record Holds (lived : Lived) (living : Living) (judged : Option Living) : Type 0 where
  pub opens : Opens lived.opening (unturned living)
  pub turns : shown_after [] lived.turns.items ≡ living.past
  pub last : JudgedAs lived lived.judged judged

-- some turn is over
pub record IsLived (lived : Lived) (living : Living) (judged : Option Living) : Type 0 where
  pub past_one : IsPastOne living.past
  pub holds : Holds lived living judged

-- the rows after the turn that goes on, where no call of the host failed in it
abbrev pub rows_judged : Going → Option (List HostRow)
rows_judged going = if going.failed then None else Some going.rows

-- The turn is the one that goes on in the life, where there is one, and these are its rows where it is judged.
pub record ClosesOne (turn : ShownTurn) (rows : Option (Vec HostRow)) (living : Living) : Type 0 where
  pub entry : entry_shown turn.entry ≡ living.entry
  pub are : option_map (λ all. all.items) rows ≡ rows_judged (going_in living)
