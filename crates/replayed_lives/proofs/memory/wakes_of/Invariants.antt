use Rattle.std.proofs.Common.{◌≡◌}
use Rattle.std.specs.Prelude.{map}
use Rattle.world_mem.specs.LinkRecord as memory
use Rattle.replay_text.specs.ScriptContent as content
use Rattle.replayed_lives.proofs.memory.wakes_of.Given as goal

abbrev pub invariant-loop-turn : goal.invariant-loop-turn
invariant-loop-turn l = map memory.given_of l.wakes.items ≡ map content.given_of l.yielded
