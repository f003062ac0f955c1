use Rattle.std.proofs.Common.{Err, ap}
use Rattle.dhcpcd.proofs.LiveAnswers.{live_completes, no_link_fault}
use Rattle.dhcpcd.proofs.living.live.Goals as goal

pub returns-in-Err-clause-complete : goal.returns-in-Err-clause-complete
returns-in-Err-clause-complete g c =
    λ tells read wrote waited. live_completes c.in-Err.status c.args.specs.now c.args.turns (g.I.Source.left c.args.input.now) _
    (g.I.Source.faults c.args.input.now) (g.I.Source.faults c.live_input.new.input) (g.O.Sink.faults c.args.out.now) (g.O.Sink.faults c.live_input.new.out)
    tells read wrote (no_link_fault c.in-Err.status _ _ c.in-Err.ensures.link waited) c.in-Err.ensures.err c.in-Err.ensures.cause

pub returns-in-Err-clause-lives : goal.returns-in-Err-clause-lives
returns-in-Err-clause-lives g c =
    λ tells reads writes failing. live_completes c.in-Err.status c.args.specs.now c.args.turns (g.I.Source.left c.args.input.now) _
    (g.I.Source.faults c.args.input.now) (g.I.Source.faults c.live_input.new.input) (g.O.Sink.faults c.args.out.now) (g.O.Sink.faults c.live_input.new.out)
    tells (c.in-Err.ensures.input_steady reads) (c.in-Err.ensures.out_steady writes)
    (λ is. c.in-Err.ensures.foretold failing (ap Err is)) c.in-Err.ensures.err c.in-Err.ensures.cause
