use Rattle.std.proofs.Common.{sym, subst}
use Rattle.std.proofs.lemmas.Result.{IfOk-weaker}
use Rattle.transcript_lines.specs.declared.lines.ToldLine.{ToldLine}
use Rattle.transcript_lines.specs.Contents.{line_of}
use Rattle.audit_reasons.specs.Explaining.{Explaining, after}
use Rattle.audit_reasons.specs.Holding.{Explains}
use Rattle.audit_reasons.proofs.CourseLaws.{others_follow}
use Rattle.audit_reasons.proofs.LivesSaid.{line_after}
use Rattle.audit_reasons.proofs.explainer.Explainer.taken.Goals as goal

pub told-requires-clause-follows : goal.told-requires-clause-follows
told-requires-clause-follows c =
    others_follow c.args.line c.in_default.not-Interface c.in_default.not-Life c.in_default.not-Start c.in_default.not-Turn c.in_default.not-EndOfLife

pub returns-in-Turn : goal.returns-in-Turn
returns-in-Turn c =
    IfOk-weaker c.turned.result _ _
    (λ next holds state explains. subst (λ (line : ToldLine). Explains next (after state (line_of line))) (sym c.in-Turn.is)
    (holds state c.in-Turn.salt explains))
    c.turned.ensures

pub returns-in_default : goal.returns-in_default
returns-in_default c =
    let follows = others_follow c.args.line c.in_default.not-Interface c.in_default.not-Life c.in_default.not-Start c.in_default.not-Turn
    c.in_default.not-EndOfLife in
    IfOk-weaker c.told.result _ _
    (λ next holds state explains. subst (λ (all : Explaining). Explains next all) (sym (line_after (line_of c.args.line) follows state))
    (holds state explains))
    c.told.ensures
