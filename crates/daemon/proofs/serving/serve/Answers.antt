use Rattle.daemon.proofs.Filings.{filed_served, filed_left}
use Rattle.daemon.proofs.serving.serve.Goals as goal

pub returns-in-Ok-clause-files : goal.returns-in-Ok-clause-files
returns-in-Ok-clause-files g c =
    filed_served c.args.turns c.args.managed.now c.args.specs.now (g.W.Outside.seen c.args.live.now) (g.W.Outside.seen c.live_on.new.outside)
    (g.O.Sink.written c.args.out.now) (g.O.Sink.written c.live_on.new.out) c.in-Ok.ensures.ok

pub returns-in-Err-clause-files : goal.returns-in-Err-clause-files
returns-in-Err-clause-files g c =
    filed_left c.in-Err.end c.args.turns c.args.managed.now c.args.specs.now (g.W.Outside.seen c.args.live.now) (g.W.Outside.seen c.live_on.new.outside)
    (g.O.Sink.written c.args.out.now) (g.O.Sink.written c.live_on.new.out) _ _ _ _ c.in-Err.ensures.cause c.in-Err.ensures.cut
