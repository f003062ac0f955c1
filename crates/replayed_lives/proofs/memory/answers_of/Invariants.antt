use Rattle.std.proofs.Common.{◌≡◌, take}
use Rattle.std.specs.Prelude.{map}
use Rattle.world_mem.specs.HookRecord.{poll_of}
use Rattle.replayed_lives.proofs.memory.answers_of.Given as goal

abbrev pub invariant-loop-poll : goal.invariant-loop-poll
invariant-loop-poll l = map poll_of l.answers.items ≡ take l.poll-index l.polls
