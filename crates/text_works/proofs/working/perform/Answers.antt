use Rattle.text_works.proofs.WorkLaws.{completes_work}
use Rattle.text_works.proofs.working.perform.Goals as goal

pub returns-in-Err-clause-complete : goal.returns-in-Err-clause-complete
returns-in-Err-clause-complete g c =
    λ serves read wrote. completes_work (g.K.TextWork.work c.args.work.now) c.in-Err.status (g.I.Source.left c.args.input.now) (g.O.Sink.written c.args.out.now)
    (g.O.Sink.written c.give.new.out)
    (g.I.Source.faults c.args.input.now) (g.I.Source.faults c.give.new.input) (g.O.Sink.faults c.args.out.now) (g.O.Sink.faults c.give.new.out)
    c.requires.decided serves read wrote c.in-Err.ensures.err c.in-Err.ensures.cause

pub returns-in-Err-clause-serves : goal.returns-in-Err-clause-serves
returns-in-Err-clause-serves g c =
    λ serves reads writes. completes_work (g.K.TextWork.work c.args.work.now) c.in-Err.status (g.I.Source.left c.args.input.now)
    (g.O.Sink.written c.args.out.now) (g.O.Sink.written c.give.new.out)
    (g.I.Source.faults c.args.input.now) (g.I.Source.faults c.give.new.input) (g.O.Sink.faults c.args.out.now) (g.O.Sink.faults c.give.new.out)
    c.requires.decided serves (c.in-Err.ensures.input_steady reads) (c.in-Err.ensures.out_steady writes) c.in-Err.ensures.err c.in-Err.ensures.cause
