use Rattle.std.proofs.Common.{refl, subst}
use Rattle.daemon.proofs.Causes.{error_is}
use Rattle.text_works.specs.Works.{IsWorked, MayRefuse}
use Rattle.text_works.proofs.WorkLaws.{refused}
use Rattle.text_works.proofs.working.give.Goals as goal

pub returns-in_err-finding-clause-err : goal.returns-in_err-finding-clause-err
returns-in_err-finding-clause-err g c =
    error_is c.from_residual-in_err-finding.result c.in_err-finding.field-0.0
    (λ status. IsWorked (g.K.TextWork.work c.args.work.now) status (g.I.Source.left c.args.input.now) (g.O.Sink.written c.args.out.now)
    (g.O.Sink.written c.args.out.now))
    c.from_residual-in_err-finding.ensures.1
    (refused (g.K.TextWork.work c.args.work.now) c.in_err-finding.field-0.0 (g.I.Source.left c.args.input.now) (g.O.Sink.written c.args.out.now)
    (g.O.Sink.written c.args.out.now)
    c.in_ok-bytes.bytes.items c.in_ok-bytes.ensures.ok.0 c.in_ok-bytes.ensures.in_limit refl
    (subst
    (λ bytes. MayRefuse ((g.K.TextWork.work c.args.work.now).Refuses bytes) c.in_err-finding.field-0.0) c.deref.ensures.value c.in_err-finding.ensures.refuses))
