use Rattle.std.proofs.Common.{◌≡◌, ◌≤◌, ◌++◌, true, false}
use Rattle.std.specs.Prelude.{map}
use Rattle.replay_text.specs.ScriptContent as content
use Rattle.replayed_lives.specs.Replays.{failing_in, at_first}
use Rattle.replayed_lives.proofs.Joined.{LivedSoFar}
use Rattle.replayed_lives.proofs.lives.replay_lives.Given as goal

abbrev pub invariant-lives : goal.invariant-lives
invariant-lives g l = record {
  so_far : LivedSoFar l.fn.managed l.fn.script.ifaces.items (failing_in l.fn.script.fails.items)
      (at_first l.fn.script.rows.items (map content.file_of l.fn.script.files.items) l.fn.script.polls.items)
      l.yielded l.between (g.O.Sink.written l.fn.out) (g.O.Sink.written l.out);
  childless : l.between.hooks.running ≡ false;
  stands : l.fn.script.lives.items ≡ l.yielded ++ l.life-iterator.rest.items;
  faults : g.O.Sink.faults l.fn.out ≤ g.O.Sink.faults l.out;
  steady : g.O.Sink.never_fails l.fn.out ≡ true → g.O.Sink.faults l.out ≡ g.O.Sink.faults l.fn.out;
  stays : g.O.Sink.never_fails l.out ≡ g.O.Sink.never_fails l.fn.out;
}
