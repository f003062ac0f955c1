use Rattle.std.proofs.Common.{take}
use Rattle.store_mem.specs.StoreRecord.{UndoesNamed, told_after}
use Rattle.store_mem.specs.Replays.{Mirrors}
use Rattle.store_mem.proofs.replaying.replayed.Given as goal

abbrev pub invariant-loop-entry : goal.invariant-loop-entry
invariant-loop-entry l =
    Mirrors l.replay (told_after l.first (take l.entry-index l.calls)) × UndoesNamed (told_after l.first (take l.entry-index l.calls))
