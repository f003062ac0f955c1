-- What is held of what is kept line by line.
use Rattle.std.specs.Prelude.{◌≡◌, Option, Some, None, IfSome}
use Rattle.std.specs.Global.{Vec}
use Rattle.world.specs.declared.rows.HostRow.{HostRow}
use Rattle.row_reasons.specs.AuditModel.Auditing.{Living}
use Rattle.row_reasons.specs.AuditSites.Openings.{Opens}
use Rattle.row_reasons.specs.AuditTurns.Goings.{GoesOn, going_of}
use Rattle.row_reasons.specs.BasisTurns.declared.shown_turn.ShownTurn.{ShownTurn}
use Rattle.row_reasons.specs.LifeHeld.{ClosesOne, IsLived}
use Rattle.row_reasons.specs.ReasonLines.{said_of}
use Rattle.audit_reasons.specs.Explaining.{Explaining}
use Rattle.audit_reasons.specs.declared.explainer.Course.{Course}
use Rattle.audit_reasons.specs.declared.explainer.Course.TheVariants as courses
use Rattle.audit_reasons.specs.declared.explainer.Explainer.{Explainer}

abbrev pub Closes : ShownTurn → Option (Vec HostRow) → Option Living → Type 0
Closes turn rows living = IfSome living (ClosesOne turn rows)

abbrev pub Courses : Course → Option Living → Option Living → Type 0
Courses courses.Between None None = Unit {0}
Courses (courses.Opening opening) (Some living) None = Opens opening living
Courses (courses.Within lived) (Some living) judged = IsLived lived living judged
Courses course living judged = ⊥

pub record Explains (explainer : Explainer) (state : Explaining) : Type 0 where
  pub configuration : explainer.known.configuration ≡ state.configuration
  pub ifaces : explainer.known.ifaces ≡ state.ifaces
  pub number : explainer.life ≡ state.number
  pub going : GoesOn state.living (going_of explainer.going)
  pub course : Courses explainer.course state.living state.judged
  pub lines : explainer.lines.items ≡ said_of state.ended
