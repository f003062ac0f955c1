use Rattle.std.proofs.Common.{◌≡◌, ◌++◌, [], map}
use Rattle.world.specs.HookCalls.{job_of}
use Rattle.client_model.specs.Interfaces.{opened}
use Rattle.client_model.specs.Fitting.{AreIfaces}
use Rattle.client_model.specs.Jobs.{jobs_along}
use Rattle.iface_core.specs.Beginnings.{beginning_of}
use Rattle.iface_core.specs.Outcomes.{asked_in}
use Rattle.client_core.specs.Stepping.{GoAll}
use Rattle.client_core.proofs.clients.opened_ifaces.Given as goal

abbrev pub invariant-loop-beginning : goal.invariant-loop-beginning
invariant-loop-beginning l = record {
  whole : l.yielded ++ l.beginning-iterator.rest.items ≡ l.fn.beginnings.items;
  went : GoAll (λ beginning. opened l.opening.up l.opening.at l.opening.salt (beginning_of beginning)) l.yielded l.ifaces.items (asked_in l.initial.outs)
      (asked_in l.outs);
  fit : AreIfaces l.ifaces.items;
  untold : (asked_in l.outs).told ≡ [];
  jobs : map job_of l.jobs.items
      ++ jobs_along l.ifaces.items []
      (map (λ beginning. opened l.opening.up l.opening.at l.opening.salt (beginning_of beginning)) l.beginning-iterator.rest.items)
      ≡ map job_of l.initial.jobs.items
      ++ jobs_along [] [] (map (λ beginning. opened l.opening.up l.opening.at l.opening.salt (beginning_of beginning)) l.fn.beginnings.items);
}
