use Rattle.std.proofs.Common.{◌≤◌, ◌++◌, ◌-◌, [], length}
use Rattle.std.specs.Prelude.{map}
use Rattle.world.specs.HookCalls.{job_of}
use Rattle.client_model.specs.IfaceTurns.{iface_turned}
use Rattle.client_model.specs.Jobs.{jobs_along}
use Rattle.iface_core.specs.Inputs.{turn_of}
use Rattle.iface_core.specs.Outcomes.{asked_in}
use Rattle.client_core.proofs.Counting.{Counted}
use Rattle.client_core.proofs.Walks.{Walked}
use Rattle.client_core.proofs.turning.turn_all.Given as goal

abbrev pub invariant-places : goal.invariant-places
invariant-places l =
    (l.turns ≤ l.place) × (length l.initial.ifaces ≤ 64 → Counted (turn_of l.turn) l.initial.ifaces l.place l.turns l.looks)
    × Walked l.own (turn_of l.turn) l.initial.ifaces l.place l.ifaces l.kept l.walk (asked_in l.initial.outs) (asked_in l.outs) (map job_of l.jobs.items)
    (map job_of l.initial.jobs.items ++ jobs_along [] l.initial.ifaces (map (iface_turned l.own (turn_of l.turn)) l.initial.ifaces))

abbrev pub decreases-places : goal.decreases-places
decreases-places l = length l.initial.ifaces - l.place
