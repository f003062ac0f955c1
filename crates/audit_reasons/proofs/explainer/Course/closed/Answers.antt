use Rattle.std.proofs.Common.{subst}
use Rattle.audit_reasons.specs.Holding.{Courses}
use Rattle.audit_reasons.specs.declared.explainer.Course.{Course}
use Rattle.audit_reasons.proofs.CourseLaws.{between_closed, opening_closed, within_closed}
use Rattle.audit_reasons.proofs.explainer.Course.closed.Goals as goal

pub returns-in-Between : goal.returns-in-Between
returns-in-Between c = λ living judged at event bytes closes is.
    between_closed living judged at event bytes (subst (λ (course : Course). Courses course living judged) c.in-Between.is is)

pub returns-in_ok-lived-in-Opening : goal.returns-in_ok-lived-in-Opening
returns-in_ok-lived-in-Opening c = λ living judged at event bytes closes is.
    opening_closed c.in-Opening.opening c.new.result c.in_ok-lived-in-Opening.lived c.args.turn c.args.rows c.new.ensures.opening c.new.ensures.turns
    c.new.ensures.judged c.in_ok-lived-in-Opening.ensures living judged at event bytes closes
    (subst (λ (course : Course). Courses course living judged) c.in-Opening.is is)

pub returns-in_ok-with_turn-in-Within : goal.returns-in_ok-with_turn-in-Within
returns-in_ok-with_turn-in-Within c = λ living judged at event bytes closes is.
    within_closed c.in-Within.lived c.in_ok-with_turn-in-Within.field-0 c.args.turn c.args.rows c.in_ok-with_turn-in-Within.ensures living judged at event
    bytes closes
    (subst (λ (course : Course). Courses course living judged) c.in-Within.is is)
