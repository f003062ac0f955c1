use Rattle.std.proofs.Common.{◌≡◌, ◌≤◌, true, false}
use Rattle.turn_model.specs.Turns.{is_over}
use Rattle.daemon.specs.Lives.{life_of, IsOrderly}
use Rattle.life_devices.specs.Waits.{KnowsChild}
use Rattle.daemon.proofs.Wakings.{TakesTurns}
use Rattle.daemon.proofs.serving.take_turns.Given as goal

abbrev pub invariant-wakes : goal.invariant-wakes
invariant-wakes g l = record {
  turns : TakesTurns l.managed (life_of l.fn.life) (g.W.Outside.seen l.fn.outside) (g.O.Sink.written l.fn.out) (life_of l.life) (g.W.Outside.seen l.outside)
      (g.O.Sink.written l.out) l.counter;
  orderly : IsOrderly l.life;
  child : KnowsChild l.life.hooks (g.W.Outside.seen l.outside);
  going : is_over (life_of l.life) ≡ false;
  out : g.O.Sink.faults l.fn.out ≤ g.O.Sink.faults l.out;
  link : (g.W.Outside.seen l.fn.outside).waiting.faults ≤ (g.W.Outside.seen l.outside).waiting.faults;
  steady : g.O.Sink.never_fails l.fn.out ≡ true → g.O.Sink.faults l.out ≡ g.O.Sink.faults l.fn.out;
  stays : g.O.Sink.never_fails l.out ≡ g.O.Sink.never_fails l.fn.out;
  waits : (g.W.Outside.seen l.outside).waiting.failing ≡ (g.W.Outside.seen l.fn.outside).waiting.failing;
}
