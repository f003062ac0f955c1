use Rattle.text_works.proofs.AuditLaws.{explained_duly}
use Rattle.text_works.proofs.explaining.explain_transcript.Goals as goal

pub returns-clause-complete : goal.returns-clause-complete
returns-clause-complete g c = λ read wrote.
    explained_duly c.a_verdict_is_one.ensures c.perform.result (g.I.Source.left c.args.input.now) (g.O.Sink.written c.args.out.now)
    (g.O.Sink.written c.perform.new.out) (g.I.Source.faults c.args.input.now) (g.I.Source.faults c.perform.new.input)
    (g.O.Sink.faults c.args.out.now) (g.O.Sink.faults c.perform.new.out) read wrote c.perform.ensures.answer c.perform.ensures.cause

pub returns-clause-serves : goal.returns-clause-serves
returns-clause-serves g c = λ reads writes.
    explained_duly c.a_verdict_is_one.ensures c.perform.result (g.I.Source.left c.args.input.now) (g.O.Sink.written c.args.out.now)
    (g.O.Sink.written c.perform.new.out) (g.I.Source.faults c.args.input.now) (g.I.Source.faults c.perform.new.input)
    (g.O.Sink.faults c.args.out.now) (g.O.Sink.faults c.perform.new.out) (c.perform.ensures.input_steady reads)
    (c.perform.ensures.out_steady writes) c.perform.ensures.answer c.perform.ensures.cause
