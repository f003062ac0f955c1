use Rattle.std.proofs.Common.{List, ℕ, sym, subst}
use Rattle.transcript_lines.specs.declared.lines.ToldLine.{ToldLine}
use Rattle.transcript_lines.specs.Contents.{line_of}
use Rattle.audit_turns.specs.AuditModel.Auditing.{Auditing, after}
use Rattle.audit_seats.specs.Tests.{judged_by}
use Rattle.audit_follower.specs.declared.auditor.Auditor.{Auditor}
use Rattle.audit_follower.specs.Holding.{Audits}
use Rattle.audit_follower.proofs.ResultLaws.{ok_as}
use Rattle.audit_follower.proofs.LineLaws.{other_line}
use Rattle.audit_follower.proofs.auditor.Auditor.follow.Goals as goal

pub returns-in-Turn : goal.returns-in-Turn
returns-in-Turn g c =
    let judge = judged_by g.J.Judge.is_own g.J.Judge.is_shared in
    ok_as _ _
    (λ next holds kept audits. subst (λ (line : ToldLine). Audits g.J.Judge.Tells next (after judge kept (line_of line))) (sym c.in-Turn.is)
    (holds kept c.in-Turn.salt audits))
    c.turned.result c.turned.ensures

pub returns-in_default : goal.returns-in_default
returns-in_default g c =
    let judge = judged_by g.J.Judge.is_own g.J.Judge.is_shared in
    ok_as _ _
    (λ next holds kept audits. subst (λ (all : Auditing). Audits g.J.Judge.Tells next all)
    (other_line judge kept c.args.line c.in_default.not-Interface c.in_default.not-Life c.in_default.not-Start c.in_default.not-Turn
    c.in_default.not-EndOfLife)
    (holds kept audits))
    c.told.result c.told.ensures
