use Rattle.std.proofs.Common.{subst}
use Rattle.std.proofs.lemmas.Result.{IfOk-weaker}
use Rattle.audit_reasons.specs.Holding.{Courses}
use Rattle.audit_reasons.specs.declared.explainer.Course.{Course}
use Rattle.audit_reasons.proofs.CourseLaws.{within_said}
use Rattle.audit_reasons.proofs.explainer.Course.lines.Goals as goal

pub returns : goal.returns
returns c =
    IfOk-weaker c.lines.result _ _
    (λ lines law living judged is. within_said c.in-Within.lived c.args.life lines.items law living judged
    (subst (λ (course : Course). Courses course living judged) c.in-Within.is is))
    c.lines.ensures
