use Rattle.iface_judge.specs.AuditSeats.Tests.{judged_by}
use Rattle.transcript_audit.proofs.SayingLaws.{said_at_end}
use Rattle.transcript_audit.proofs.auditing.audited.Goals as goal

pub returns-clause-judged : goal.returns-clause-judged
returns-clause-judged g c =
    said_at_end g.J.Judge.Tells (judged_by g.J.Judge.is_own g.J.Judge.is_shared) c.args.text.now c.in_ok-judging.judging c.verdict.result
    c.in_ok-judging.ensures.found c.verdict.ensures
