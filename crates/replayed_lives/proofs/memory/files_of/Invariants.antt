use Rattle.std.proofs.Common.{◌≡◌}
use Rattle.std.specs.Prelude.{map}
use Rattle.world_mem.specs.StoreMem.StoreRecord as stores
use Rattle.replay_text.specs.ScriptContent as content
use Rattle.replayed_lives.proofs.memory.files_of.Given as goal

abbrev pub invariant-loop-file : goal.invariant-loop-file
invariant-loop-file l = map stores.file_of l.held.items ≡ map content.file_of l.yielded
