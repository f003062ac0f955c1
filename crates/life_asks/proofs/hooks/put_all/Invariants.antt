use Rattle.std.proofs.Common.{ℕ, ◌≡◌, List, map}
use Rattle.world.specs.HookCalls.{job_of}
use Rattle.hook_child.specs.Supervision.{Supervision}
use Rattle.device_calls.specs.Worlds.{Seen}
use Rattle.device_calls.specs.Does.{Does}
use Rattle.turn_model.specs.Hooking.{putting}
use Rattle.life_asks.proofs.hooks.put_all.Given as goal

abbrev pub invariant-loop-job : goal.invariant-loop-job
invariant-loop-job l = record {
  -- what the rest does, and this before it, all do
  so_far : (seen : Seen) (next : Supervision) (text : List ℕ)
      → Does (putting (map job_of l.job-iterator.rest.items) l.hooks) next seen seen l.text.items text
      → Does (putting (map job_of l.fn.jobs.items) l.fn.hooks) next seen seen l.fn.text.items text;
  child : l.hooks.child ≡ l.fn.hooks.child;
}
