use Rattle.std.proofs.Common.{sym, ap, ◌∙◌, [], ◌∷◌, take, arith}
use Rattle.turn_model.specs.Lives.{met_with}
use Rattle.daemon.specs.declared.serving.ServeEnd.TheVariants as ends
use Rattle.daemon.specs.Lives.{life_of}
use Rattle.daemon.specs.Cuts.{BreaksOff}
use Rattle.daemon.proofs.Causes.{error_is}
use Rattle.daemon.proofs.Stretches.{goes_ends}
use Rattle.daemon.proofs.OneTurn.{one_goes, wait_ends}
use Rattle.daemon.proofs.CutOffs.{breaks_within_turn, breaks_at_wait, breaks_in_turn}
use Rattle.daemon.proofs.waking.one_turn.Goals as goal

pub returns-in_err-wake-clause-cut : goal.returns-in_err-wake-clause-cut
returns-in_err-wake-clause-cut g c =
    error_is c.from_residual.result c.in_err-wake.field-0.0
    (λ end. BreaksOff end 1 c.args.managed.now (life_of c.args.life) (g.W.Outside.seen c.args.outside.now) (g.W.Outside.seen c.wait.new.outside)
    (g.O.Sink.written c.args.out.now) (g.O.Sink.written c.args.out.now))
    c.from_residual.ensures.1
    (breaks_at_wait c.in_err-wake.field-0.0 c.args.managed.now (life_of c.args.life) (g.W.Outside.seen c.args.outside.now)
    (g.W.Outside.seen c.wait.new.outside) c.until.result (g.O.Sink.written c.args.out.now)
    c.until.ensures c.requires.going c.in_err-wake.ensures.failed)

pub returns-then-ends_life-clause-ok : goal.returns-then-ends_life-clause-ok
returns-then-ends_life-clause-ok g c = (
  c.in_ok-wake.ensures.child ∙ c.requires.child,
  wait_ends c.args.managed.now (life_of c.args.life) c.in_ok-wake.wake c.wait.new.buf c.until.result (g.W.Outside.seen c.args.outside.now)
      (g.W.Outside.seen c.wait.new.outside) (g.O.Sink.written c.args.out.now)
      c.requires.going c.until.ensures (sym c.ends_life.ensures ∙ c.if-ends_life.true) c.in_ok-wake.ensures.waits,
)

pub returns-in_err-life-clause-cut : goal.returns-in_err-life-clause-cut
returns-in_err-life-clause-cut g c =
    error_is c.from_residual-in_err-life.result ends.NoMemory
    (λ end. BreaksOff end 1 c.args.managed.now (life_of c.args.life) (g.W.Outside.seen c.args.outside.now) (g.W.Outside.seen c.turn.new.outside)
    (g.O.Sink.written c.args.out.now) (g.O.Sink.written c.args.out.now))
    c.from_residual-in_err-life.ensures.1
    (breaks_within_turn c.args.managed.now (life_of c.args.life) c.in_ok-wake.wake c.front.result.now c.wait.new.buf c.until.result
    (g.W.Outside.seen c.args.outside.now) (g.W.Outside.seen c.wait.new.outside) (g.W.Outside.seen c.turn.new.outside) (g.O.Sink.written c.args.out.now)
    c.requires.going (sym c.ends_life.ensures ∙ c.if-ends_life.false) (c.wait.auto.buf ∙ c.requires.room)
    (c.front.ensures ∙ ap (λ n. take n c.wait.new.buf) c.frame_size-len.ensures) c.in_ok-wake.ensures.waits c.until.ensures
    c.in_err-life.ensures.begun)

pub returns-in_err-write_all-clause-cut : goal.returns-in_err-write_all-clause-cut
returns-in_err-write_all-clause-cut g c =
    error_is c.from_residual-in_err-write_all.result c.in_err-write_all.field-0.0
    (λ end. BreaksOff end 1 c.args.managed.now (life_of c.args.life) (g.W.Outside.seen c.args.outside.now) (g.W.Outside.seen c.turn.new.outside)
    (g.O.Sink.written c.args.out.now) (g.O.Sink.written c.write_all.new.out))
    c.from_residual-in_err-write_all.ensures.1
    (breaks_in_turn c.in_err-write_all.field-0.0 c.args.managed.now (life_of c.args.life)
    (life_of c.in_ok-life.life) c.in_ok-wake.wake c.front.result.now c.wait.new.buf c.clear.new.self.items c.turn.new.text.items c.deref.result.now
    c.until.result
    (g.W.Outside.seen c.args.outside.now) (g.W.Outside.seen c.wait.new.outside) (g.W.Outside.seen c.turn.new.outside) (g.O.Sink.written c.args.out.now)
    (g.O.Sink.written c.write_all.new.out) _ _
    c.in_ok-life.ensures.made c.clear.ensures.items c.deref.ensures.value c.in_err-write_all.ensures.some
    c.requires.going (sym c.ends_life.ensures ∙ c.if-ends_life.false) (c.wait.auto.buf ∙ c.requires.room)
    (c.front.ensures ∙ ap (λ n. take n c.wait.new.buf) c.frame_size-len.ensures) c.in_ok-wake.ensures.waits c.until.ensures
    c.in_err-write_all.ensures.cause)

pub returns-then-is_over-clause-ok : goal.returns-then-is_over-clause-ok
returns-then-is_over-clause-ok g c = (
  c.in_ok-life.ensures.child,
  goes_ends 1 c.args.managed.now (life_of c.args.life) (life_of c.in_ok-life.life) (g.W.Outside.seen c.args.outside.now) (g.W.Outside.seen c.turn.new.outside)
      (g.O.Sink.written c.args.out.now) (g.O.Sink.written c.write_all.new.out)
      (met_with c.in_ok-wake.wake c.front.result.now c.in_ok-life.ensures.made.calls (life_of c.in_ok-life.life) ∷ [])
      (omega arith) (sym c.is_over.ensures ∙ c.if-is_over.true)
      (one_goes c.args.managed.now (life_of c.args.life)
      (life_of c.in_ok-life.life) c.in_ok-wake.wake c.front.result.now c.wait.new.buf c.clear.new.self.items c.turn.new.text.items c.deref.result.now
      c.until.result
      (g.W.Outside.seen c.args.outside.now) (g.W.Outside.seen c.wait.new.outside) (g.W.Outside.seen c.turn.new.outside) (g.O.Sink.written c.args.out.now)
      (g.O.Sink.written c.write_all.new.out)
      c.in_ok-life.ensures.made c.clear.ensures.items c.deref.ensures.value c.in_ok-write_all.ensures.ok.1
      c.requires.going (sym c.ends_life.ensures ∙ c.if-ends_life.false) (c.wait.auto.buf ∙ c.requires.room)
      (c.front.ensures ∙ ap (λ n. take n c.wait.new.buf) c.frame_size-len.ensures) c.in_ok-wake.ensures.waits c.until.ensures),
)

pub returns-clause-ok : goal.returns-clause-ok
returns-clause-ok g c = (
  c.in_ok-life.ensures.orderly,
  c.in_ok-life.ensures.child,
  record {
    met = met_with c.in_ok-wake.wake c.front.result.now c.in_ok-life.ensures.made.calls (life_of c.in_ok-life.life);
    goes =
        one_goes c.args.managed.now (life_of c.args.life)
        (life_of c.in_ok-life.life) c.in_ok-wake.wake c.front.result.now c.wait.new.buf c.clear.new.self.items c.turn.new.text.items c.deref.result.now
        c.until.result
        (g.W.Outside.seen c.args.outside.now) (g.W.Outside.seen c.wait.new.outside) (g.W.Outside.seen c.turn.new.outside) (g.O.Sink.written c.args.out.now)
        (g.O.Sink.written c.write_all.new.out)
        c.in_ok-life.ensures.made c.clear.ensures.items c.deref.ensures.value c.in_ok-write_all.ensures.ok.1
        c.requires.going (sym c.ends_life.ensures ∙ c.if-ends_life.false) (c.wait.auto.buf ∙ c.requires.room)
        (c.front.ensures ∙ ap (λ n. take n c.wait.new.buf) c.frame_size-len.ensures) c.in_ok-wake.ensures.waits c.until.ensures;
    going = sym c.is_over.ensures ∙ c.if-is_over.false;
  },
)
