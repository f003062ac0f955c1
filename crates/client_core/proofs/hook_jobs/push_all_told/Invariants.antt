use Rattle.std.proofs.Common.{◌≡◌, ◌++◌, map}
use Rattle.std.specs.Prelude.{flat_map}
use Rattle.world.specs.HookCalls.{job_of}
use Rattle.client_model.specs.Jobs.{jobs_among}
use Rattle.iface_core.specs.Outcomes.{told_content}
use Rattle.client_core.proofs.hook_jobs.push_all_told.Given as goal

abbrev pub invariant-loop-told : goal.invariant-loop-told
invariant-loop-told l = record {
  whole : l.yielded ++ l.told-iterator.rest.items ≡ l.fn.all.items;
  made : map job_of l.jobs.items ≡ map job_of l.initial.jobs.items ++ flat_map (jobs_among l.ifaces) (map told_content l.yielded);
}
