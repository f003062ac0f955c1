use Rattle.std.proofs.Common.{refl, arith, ◌∙◌}
use Rattle.daemon.specs.Lives.{life_of}
use Rattle.daemon.specs.declared.serving.ServeEnd.TheVariants as ends
use Rattle.daemon.specs.Cuts.{BreaksOff}
use Rattle.device_calls.proofs.Doing.{tells_none}
use Rattle.daemon.proofs.Causes.{error_is}
use Rattle.daemon.proofs.CutOffs.{breaks_for_memory}
use Rattle.daemon.proofs.Wakings.{takes_none, takes_more, takes_last, takes_breaks, takes_over}
use Rattle.daemon.proofs.serving.take_turns.Goals as goal

pub wakes-init : goal.wakes-init
wakes-init g c = record {
  turns = takes_none c.args.managed.now (life_of c.args.life) (g.W.Outside.seen c.args.outside.now) (g.O.Sink.written c.args.out.now);
  orderly = c.requires.orderly;
  child = c.requires.child;
  going = c.requires.going;
  out = omega arith;
  link = omega arith;
  steady = λ _. refl;
  stays = refl;
  waits = refl;
}

pub wakes-preserved : goal.wakes-preserved
wakes-preserved g c =
    let woken = rw c.in-On.is at c.in_ok-last.ensures.ok in
    record {
      turns =
          takes_more c.args.managed.now (life_of c.args.life) (life_of c.wakes.life) (life_of c.in-On.next) (g.W.Outside.seen c.args.outside.now)
          (g.W.Outside.seen c.wakes.outside) _ (g.O.Sink.written c.args.out.now)
          (g.O.Sink.written c.wakes.out) _ c.wakes.counter c.wakes.invariant.turns woken.2;
      orderly = woken.0;
      child = woken.1;
      going = woken.2.going;
      out = omega (arith, c.wakes.invariant.out, c.in_ok-last.ensures.later.0);
      link = omega (arith, c.wakes.invariant.link, c.in_ok-last.ensures.later.1);
      steady = λ never. c.in_ok-last.ensures.steady (c.wakes.invariant.stays ∙ never) ∙ c.wakes.invariant.steady never;
      stays = c.in_ok-last.ensures.stays ∙ c.wakes.invariant.stays;
      waits = c.in_ok-last.ensures.failing ∙ c.wakes.invariant.waits;
    }

pub returns-in-Over-clause-ok : goal.returns-in-Over-clause-ok
returns-in-Over-clause-ok g c =
    let woken = rw c.in-Over.is at c.in_ok-last.ensures.ok in
    takes_last c.args.turns c.args.managed.now (life_of c.args.life) (life_of c.wakes.life) (life_of c.in-Over.last) (g.W.Outside.seen c.args.outside.now)
    (g.W.Outside.seen c.wakes.outside) _ (g.O.Sink.written c.args.out.now) (g.O.Sink.written c.wakes.out) _ c.wakes.counter
    (omega arith) c.wakes.invariant.turns woken.1

pub returns-in-Over-clause-child : goal.returns-in-Over-clause-child
returns-in-Over-clause-child g c =
    let woken = rw c.in-Over.is at c.in_ok-last.ensures.ok in
    woken.0

pub returns-in_err-buf-clause-cut : goal.returns-in_err-buf-clause-cut
returns-in_err-buf-clause-cut g c =
    error_is c.from_residual.result ends.NoMemory
    (λ end. BreaksOff end c.args.turns c.args.managed.now (life_of c.args.life) (g.W.Outside.seen c.args.outside.now) (g.W.Outside.seen c.args.outside.now)
    (g.O.Sink.written c.args.out.now) (g.O.Sink.written c.args.out.now))
    c.from_residual.ensures.1
    (breaks_for_memory c.args.turns c.args.managed.now (life_of c.args.life) (g.W.Outside.seen c.args.outside.now) (g.W.Outside.seen c.args.outside.now)
    (g.O.Sink.written c.args.out.now) c.requires.going (tells_none (g.W.Outside.seen c.args.outside.now)))

pub returns-in_err-last-clause-cut : goal.returns-in_err-last-clause-cut
returns-in_err-last-clause-cut g c =
    error_is c.from_residual-in_err-last.result c.in_err-last.field-0.0
    (λ end. BreaksOff end c.args.turns c.args.managed.now (life_of c.args.life) (g.W.Outside.seen c.args.outside.now)
    (g.W.Outside.seen c.one_turn.new.outside) (g.O.Sink.written c.args.out.now) (g.O.Sink.written c.one_turn.new.out))
    c.from_residual-in_err-last.ensures.1
    (takes_breaks c.in_err-last.field-0.0 c.args.turns c.args.managed.now (life_of c.args.life) (life_of c.wakes.life) (g.W.Outside.seen c.args.outside.now)
    (g.W.Outside.seen c.wakes.outside) (g.W.Outside.seen c.one_turn.new.outside) (g.O.Sink.written c.args.out.now) (g.O.Sink.written c.wakes.out)
    (g.O.Sink.written c.one_turn.new.out) c.wakes.counter _ _ _ _
    (omega arith) c.in_err-last.ensures.cause c.wakes.invariant.turns c.in_err-last.ensures.cut)

pub returns-clause-cut : goal.returns-clause-cut
returns-clause-cut g c =
    takes_over c.args.turns c.args.managed.now (life_of c.args.life) (life_of c.wakes.life) (g.W.Outside.seen c.args.outside.now)
    (g.W.Outside.seen c.wakes.outside) (g.O.Sink.written c.args.out.now) (g.O.Sink.written c.wakes.out) c.wakes.counter
    (omega arith) c.wakes.invariant.going c.wakes.invariant.turns
