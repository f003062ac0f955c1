use Rattle.replayed_lives.proofs.ReplayAnswers.{completes}
use Rattle.replayed_lives.proofs.replaying.replay.Goals as goal

pub returns-in-Err-clause-complete : goal.returns-in-Err-clause-complete
returns-in-Err-clause-complete g c =
    λ tells read wrote. completes c.in-Err.status (g.I.Source.left c.args.input.now) (g.O.Sink.written c.args.out.now) (g.O.Sink.written c.replay_input.new.out)
    (g.I.Source.faults c.args.input.now) (g.I.Source.faults c.replay_input.new.input) (g.O.Sink.faults c.args.out.now)
    (g.O.Sink.faults c.replay_input.new.out)
    tells read wrote c.in-Err.ensures.err c.in-Err.ensures.cause

pub returns-in-Err-clause-replays : goal.returns-in-Err-clause-replays
returns-in-Err-clause-replays g c =
    λ tells reads writes. completes c.in-Err.status (g.I.Source.left c.args.input.now) (g.O.Sink.written c.args.out.now)
    (g.O.Sink.written c.replay_input.new.out) (g.I.Source.faults c.args.input.now) (g.I.Source.faults c.replay_input.new.input)
    (g.O.Sink.faults c.args.out.now) (g.O.Sink.faults c.replay_input.new.out)
    tells (c.in-Err.ensures.input_steady reads) (c.in-Err.ensures.out_steady writes) c.in-Err.ensures.err c.in-Err.ensures.cause
