use Rattle.daemon.specs.declared.serving.ServeEnd.TheVariants as ends
use Rattle.daemon.specs.Lives.{life_of}
use Rattle.daemon.specs.Cuts.{Leaves}
use Rattle.daemon.proofs.Causes.{error_is, error_was}
use Rattle.daemon.proofs.CutOffs.{breaks_at_end}
use Rattle.daemon.proofs.Whole.{serves, leaves_opening, leaves_life, leaves_unbegun, many_before, leaves_opened}
use Rattle.daemon.proofs.serving.live_on.Goals as goal

pub returns-clause-ok : goal.returns-clause-ok
returns-clause-ok g c =
    serves c.args.managed.now c.args.specs.now c.in_ok-start.start (life_of c.in_ok-life.life) (g.W.Outside.seen c.args.outside.now)
    (g.W.Outside.seen c.begin.new.outside) (g.W.Outside.seen c.open.new.outside) c.new-text.result.items c.open.new.text.items c.deref.result.now
    (g.O.Sink.written c.args.out.now) (g.O.Sink.written c.write_all.new.out)
    c.in_ok-start.ensures.ok.1 c.in_ok-life.ensures.made c.new-text.ensures.items c.deref.ensures.value c.requires.managed
    c.args.turns (life_of c.in_ok-last.last) (g.W.Outside.seen c.take_turns.new.outside) (g.O.Sink.written c.take_turns.new.out)
    (g.O.Sink.written c.close.new.out) c.in_ok-write_all.ensures.ok.1 c.in_ok-last.ensures.ok c.in_ok-last.ensures.child c.in_ok-close.ensures.ok.1

pub returns-in_err-start-clause-cut : goal.returns-in_err-start-clause-cut
returns-in_err-start-clause-cut g c =
    error_is c.from_residual.result c.in_err-start.field-0.0
    (λ end. Leaves end c.args.turns c.args.managed.now c.args.specs.now (g.W.Outside.seen c.args.outside.now) (g.W.Outside.seen c.begin.new.outside)
    (g.O.Sink.written c.args.out.now) (g.O.Sink.written c.args.out.now))
    c.from_residual.ensures.1
    (leaves_unbegun c.in_err-start.field-0.0 c.args.turns c.args.managed.now c.args.specs.now (g.W.Outside.seen c.args.outside.now)
    (g.W.Outside.seen c.begin.new.outside) (g.O.Sink.written c.args.out.now) c.in_err-start.ensures.failed)

pub returns-in_err-write_all-clause-cut : goal.returns-in_err-write_all-clause-cut
returns-in_err-write_all-clause-cut g c =
    error_is c.from_residual-in_err-write_all.result c.in_err-write_all.field-0.0
    (λ end. Leaves end c.args.turns c.args.managed.now c.args.specs.now (g.W.Outside.seen c.args.outside.now) (g.W.Outside.seen c.open.new.outside)
    (g.O.Sink.written c.args.out.now) (g.O.Sink.written c.write_all.new.out))
    c.from_residual-in_err-write_all.ensures.1
    (leaves_opening c.args.managed.now c.args.specs.now c.in_ok-start.start (life_of c.in_ok-life.life) (g.W.Outside.seen c.args.outside.now)
    (g.W.Outside.seen c.begin.new.outside) (g.W.Outside.seen c.open.new.outside) c.new-text.result.items c.open.new.text.items c.deref.result.now
    (g.O.Sink.written c.args.out.now) (g.O.Sink.written c.write_all.new.out)
    c.in_ok-start.ensures.ok.1 c.in_ok-life.ensures.made c.new-text.ensures.items c.deref.ensures.value c.requires.managed
    c.in_err-write_all.field-0.0 c.args.turns (g.O.Sink.written c.write_all.new.out) _ _ c.in_err-write_all.ensures.some c.in_err-write_all.ensures.cause)

pub returns-in_err-last-clause-cut : goal.returns-in_err-last-clause-cut
returns-in_err-last-clause-cut g c =
    error_is c.from_residual-in_err-last.result c.in_err-last.field-0.0
    (λ end. Leaves end c.args.turns c.args.managed.now c.args.specs.now (g.W.Outside.seen c.args.outside.now) (g.W.Outside.seen c.take_turns.new.outside)
    (g.O.Sink.written c.args.out.now) (g.O.Sink.written c.take_turns.new.out))
    c.from_residual-in_err-last.ensures.1
    (leaves_life c.args.managed.now c.args.specs.now c.in_ok-start.start (life_of c.in_ok-life.life) (g.W.Outside.seen c.args.outside.now)
    (g.W.Outside.seen c.begin.new.outside) (g.W.Outside.seen c.open.new.outside) c.new-text.result.items c.open.new.text.items c.deref.result.now
    (g.O.Sink.written c.args.out.now) (g.O.Sink.written c.write_all.new.out)
    c.in_ok-start.ensures.ok.1 c.in_ok-life.ensures.made c.new-text.ensures.items c.deref.ensures.value c.requires.managed
    c.in_err-last.field-0.0 c.args.turns (g.W.Outside.seen c.take_turns.new.outside)
    (g.O.Sink.written c.take_turns.new.out) c.in_ok-write_all.ensures.ok.1 c.in_err-last.ensures.cut)

pub returns-in_err-close-clause-cut : goal.returns-in_err-close-clause-cut
returns-in_err-close-clause-cut g c =
    error_is c.from_residual-in_err-close.result c.in_err-close.field-0.0
    (λ end. Leaves end c.args.turns c.args.managed.now c.args.specs.now (g.W.Outside.seen c.args.outside.now) (g.W.Outside.seen c.take_turns.new.outside)
    (g.O.Sink.written c.args.out.now) (g.O.Sink.written c.close.new.out))
    c.from_residual-in_err-close.ensures.1
    (leaves_life c.args.managed.now c.args.specs.now c.in_ok-start.start (life_of c.in_ok-life.life) (g.W.Outside.seen c.args.outside.now)
    (g.W.Outside.seen c.begin.new.outside) (g.W.Outside.seen c.open.new.outside) c.new-text.result.items c.open.new.text.items c.deref.result.now
    (g.O.Sink.written c.args.out.now) (g.O.Sink.written c.write_all.new.out)
    c.in_ok-start.ensures.ok.1 c.in_ok-life.ensures.made c.new-text.ensures.items c.deref.ensures.value c.requires.managed
    c.in_err-close.field-0.0 c.args.turns (g.W.Outside.seen c.take_turns.new.outside) (g.O.Sink.written c.close.new.out) c.in_ok-write_all.ensures.ok.1
    (breaks_at_end c.in_err-close.field-0.0 c.args.turns c.args.managed.now (life_of c.in_ok-life.life) (life_of c.in_ok-last.last)
    (g.W.Outside.seen c.open.new.outside) (g.W.Outside.seen c.take_turns.new.outside) (g.O.Sink.written c.write_all.new.out)
    (g.O.Sink.written c.take_turns.new.out) (g.O.Sink.written c.close.new.out) _ _
    c.in_ok-last.ensures.ok c.in_err-close.ensures.front c.in_err-close.ensures.cause))

pub returns-in_err-last-clause-many : goal.returns-in_err-last-clause-many
returns-in_err-last-clause-many g c over =
    many_before c.args.managed.now c.args.specs.now c.in_ok-start.start (life_of c.in_ok-life.life) c.args.turns (g.W.Outside.seen c.args.outside.now)
    (g.W.Outside.seen c.begin.new.outside) (g.W.Outside.seen c.open.new.outside) c.new-text.result.items c.open.new.text.items
    c.in_ok-start.ensures.ok.1 c.in_ok-life.ensures.made
    (c.in_err-last.ensures.many
    (error_was c.from_residual-in_err-last.result c.in_err-last.field-0.0 ends.TurnsOver c.from_residual-in_err-last.ensures.1 over))

pub returns-in_err-life-clause-cut : goal.returns-in_err-life-clause-cut
returns-in_err-life-clause-cut g c =
    error_is c.from_residual-in_err-life.result ends.NoMemory
    (λ end. Leaves end c.args.turns c.args.managed.now c.args.specs.now (g.W.Outside.seen c.args.outside.now) (g.W.Outside.seen c.open.new.outside)
    (g.O.Sink.written c.args.out.now) (g.O.Sink.written c.args.out.now))
    c.from_residual-in_err-life.ensures.1
    (leaves_opened c.args.turns c.args.managed.now c.args.specs.now c.requires.managed c.in_ok-start.start (g.W.Outside.seen c.args.outside.now)
    (g.W.Outside.seen c.begin.new.outside) (g.W.Outside.seen c.open.new.outside) (g.O.Sink.written c.args.out.now)
    c.in_ok-start.ensures.ok.1 c.in_err-life.ensures.begun)
