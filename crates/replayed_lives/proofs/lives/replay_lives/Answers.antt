use Rattle.std.proofs.Common.{[], refl, sym, ap, subst, arith, ◌∙◌}
use Rattle.std.specs.Prelude.{map}
use Rattle.replay_text.specs.ScriptContent as content
use Rattle.script_model.specs.declared.failing.FailDevice.TheVariants.{Link}
use Rattle.script_model.specs.FailingCalls.{failing_calls}
use Rattle.daemon.specs.Streams.{WritesLines, WritesFront}
use Rattle.daemon.proofs.Causes.{error_is}
use Rattle.daemon.proofs.CutOffs.{front_none}
use Rattle.world_mem.specs.HookRecord.{HooksState}
use Rattle.replayed_lives.specs.Memory.{store_of, host_of, hooks_of}
use Rattle.replayed_lives.specs.Replays.{failing_in, at_first, lives_lines, lives_of_script}
use Rattle.replayed_lives.proofs.Joined.{lived_none, lived_more, front_in_life, finds_first, fails_first, few_lives, stands_on, stands_past, none_left, not_last}
use Rattle.replayed_lives.proofs.lives.replay_lives.Goals as goal

pub lives-init : goal.lives-init
lives-init g c =
    let store = c.in_ok-between.ensures.store ∙ ap (store_of (map content.file_of c.args.script.files.items)) c.deref-3.ensures.value in
    let host = c.in_ok-between.ensures.host ∙ ap (host_of c.args.script.rows.items) c.deref-3.ensures.value in
    let hooks = c.in_ok-between.ensures.hooks ∙ (λ i. hooks_of (c.deref-2.ensures.value i) (c.deref-3.ensures.value i)) in
    record {
      so_far =
          lived_none c.args.managed.now c.args.script.ifaces.items (failing_in c.args.script.fails.items)
          (at_first c.args.script.rows.items (map content.file_of c.args.script.files.items) c.args.script.polls.items) c.in_ok-between.between
          (g.O.Sink.written c.args.out.now)
          (finds_first c.args.script.rows.items
          (map content.file_of c.args.script.files.items) c.args.script.polls.items c.args.script.fails.items c.in_ok-between.between
          c.in_ok-between.ensures.counts store host hooks)
          (fails_first c.args.script.rows.items
          (map content.file_of c.args.script.files.items) c.args.script.polls.items c.args.script.fails.items c.in_ok-between.between store host hooks);
      childless = ap (λ (h : HooksState). h.running) c.in_ok-between.ensures.hooks;
      stands = sym c.into_iter-life-iterator.ensures.into_iter_gives.0;
      faults = omega arith;
      steady = λ never. refl;
      stays = refl;
    }

pub lives-preserved : goal.lives-preserved
lives-preserved g c = record {
  so_far =
      lived_more c.args.managed.now c.args.script.ifaces.items (failing_in c.args.script.fails.items)
      (at_first c.args.script.rows.items (map content.file_of c.args.script.files.items) c.args.script.polls.items) c.lives.yielded c.lives.between
      (g.O.Sink.written c.args.out.now) (g.O.Sink.written c.lives.out)
      (g.O.Sink.written c.replay_life.new.out) c.lives.invariant.so_far c.in-Some.life c.deref-in-lives.result.now c.deref-in-lives.ensures.value
      c.deref-in-lives-2.result.now (c.deref-in-lives-2.ensures.value ∙ c.in_ok-sends.ensures ∙ ap (failing_calls Link) c.deref.ensures.value)
      c.in_ok-between-2.between c.in_ok-between-2.ensures.ok.1 c.in_ok-between-2.ensures.left c.in_ok-between-2.ensures.failing;
  childless = c.in_ok-between-2.ensures.childless;
  stands =
      stands_past c.args.script.lives.items c.lives.yielded c.in-Some.life c.next.new.self.rest.items
      (stands_on c.args.script.lives.items c.lives.yielded c.in-Some.life c.lives.life-iterator.rest.items c.next.new.self.rest.items
      c.lives.invariant.stands c.in-Some.ensures.steps.0);
  faults = omega (arith, c.lives.invariant.faults, c.in_ok-between-2.ensures.ok.0);
  steady = λ never. c.replay_life.ensures.steady (c.lives.invariant.stays ∙ never) ∙ c.lives.invariant.steady never;
  stays = c.replay_life.ensures.stays ∙ c.lives.invariant.stays;
}

pub replay_life-requires-clause-few : goal.replay_life-requires-clause-few
replay_life-requires-clause-few g c =
    let lived =
    few_lives c.args.managed.now c.args.script.ifaces.items (failing_in c.args.script.fails.items)
    (at_first c.args.script.rows.items (map content.file_of c.args.script.files.items) c.args.script.polls.items) c.lives.yielded c.lives.between
    (g.O.Sink.written c.args.out.now) (g.O.Sink.written c.lives.out) refl c.lives.invariant.so_far in
    let more =
    not_last c.args.script.lives.items c.lives.yielded c.in-Some.life c.next.new.self.rest.items
    (stands_on c.args.script.lives.items c.lives.yielded c.in-Some.life c.lives.life-iterator.rest.items c.next.new.self.rest.items
    c.lives.invariant.stands c.in-Some.ensures.steps.0)
    in
    omega (arith, lived, more, c.args.script.lives.ok.0, c.args.script.lives.small)

pub returns-clause-ok : goal.returns-clause-ok
returns-clause-ok g c = (
  c.lives.invariant.faults,
  subst
      (λ lives. WritesLines (g.O.Sink.written c.args.out.now) (g.O.Sink.written c.lives.out)
      (lives_lines c.args.managed.now c.args.script.ifaces.items (failing_in c.args.script.fails.items)
      (at_first c.args.script.rows.items (map content.file_of c.args.script.files.items) c.args.script.polls.items) (map content.life_of lives)))
      (none_left c.args.script.lives.items c.lives.yielded c.lives.life-iterator.rest.items c.lives.invariant.stands
      (omega (arith, c.in-None.ensures.steps.0, c.lives.life-iterator.rest.ok.0)))
      c.lives.invariant.so_far.written,
)

pub returns-in_err-sends-clause-front : goal.returns-in_err-sends-clause-front
returns-in_err-sends-clause-front g c =
    error_is c.from_residual.result _
    (λ status. WritesFront (g.O.Sink.written c.args.out.now) (g.O.Sink.written c.args.out.now) []
    (lives_of_script c.args.managed.now (content.script_of c.args.script)))
    c.from_residual.ensures.1
    (front_none _ _)

pub returns-in_err-between-clause-front : goal.returns-in_err-between-clause-front
returns-in_err-between-clause-front g c =
    error_is c.from_residual-in_err-between.result _
    (λ status. WritesFront (g.O.Sink.written c.args.out.now) (g.O.Sink.written c.args.out.now) []
    (lives_of_script c.args.managed.now (content.script_of c.args.script)))
    c.from_residual-in_err-between.ensures.1
    (front_none _ _)

pub returns-in_err-between-2-clause-front : goal.returns-in_err-between-2-clause-front
returns-in_err-between-2-clause-front g c =
    error_is c.from_residual-in_err-between-2.result _
    (λ status. WritesFront (g.O.Sink.written c.args.out.now) (g.O.Sink.written c.replay_life.new.out) []
    (lives_of_script c.args.managed.now (content.script_of c.args.script)))
    c.from_residual-in_err-between-2.ensures.1
    (front_in_life c.args.managed.now c.args.script.ifaces.items (failing_in c.args.script.fails.items)
    (at_first c.args.script.rows.items (map content.file_of c.args.script.files.items) c.args.script.polls.items) c.lives.yielded c.lives.between
    (g.O.Sink.written c.args.out.now) (g.O.Sink.written c.lives.out)
    (g.O.Sink.written c.replay_life.new.out) c.lives.invariant.so_far c.in-Some.life c.deref-in-lives.result.now c.deref-in-lives.ensures.value
    c.deref-in-lives-2.result.now (c.deref-in-lives-2.ensures.value ∙ c.in_ok-sends.ensures ∙ ap (failing_calls Link) c.deref.ensures.value)
    c.args.script.lives.items c.next.new.self.rest.items
    (stands_on c.args.script.lives.items c.lives.yielded c.in-Some.life c.lives.life-iterator.rest.items c.next.new.self.rest.items c.lives.invariant.stands
    c.in-Some.ensures.steps.0)
    c.in_err-between-2.ensures.front)
