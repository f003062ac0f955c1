use Rattle.std.specs.Prelude.{min}
use Rattle.client_core.specs.Due.{dues_of}
use Rattle.client_core.proofs.Looking.{IsLooked}
use Rattle.client_core.proofs.Putting.{PutsBelow}
use Rattle.client_core.proofs.due_queue.put_each.Given as goal

abbrev pub invariant-loop-machine : goal.invariant-loop-machine
invariant-loop-machine l =
    IsLooked (min l.machine-index 3) l.initial.looks l.looks
    × PutsBelow l.place l.machine-index (dues_of l.iface) l.initial.queue l.queue
