use Rattle.std.proofs.Common.{List, map, refl, subst, ◌∙◌}
use Rattle.world.specs.declared.hooking.HookJob.{HookJob}
use Rattle.world.specs.HookCalls.{job_of}
use Rattle.device_calls.specs.Does.{Does}
use Rattle.turn_model.specs.Hooking.{putting}
use Rattle.life_asks.proofs.Hookings.{putting_first, putting_none}
use Rattle.life_asks.proofs.hooks.put_all.Goals as goal

pub loop-job-init : goal.loop-job-init
loop-job-init c = record {
  so_far = λ seen next text did.
      subst
      (λ (jobs : List HookJob). Does (putting (map job_of jobs) c.args.hooks.now) next seen seen c.args.text.now.items text)
      c.into_iter-job-iterator.ensures.into_iter_gives.0 did;
  child = refl;
}

pub loop-job-preserved : goal.loop-job-preserved
loop-job-preserved c = record {
  so_far = λ seen next text did.
      c.loop-job.invariant.so_far seen next text
      (putting_first job_of c.loop-job.job-iterator.rest.items c.next.new.self.rest.items c.in-Some.job c.loop-job.hooks c.put_one.new.hooks next seen _ _ text
      c.in-Some.ensures.steps.0 c.in_ok-put_one.ensures.puts did);
  child = c.put_one.ensures.child ∙ c.loop-job.invariant.child;
}

pub returns-clause-puts : goal.returns-clause-puts
returns-clause-puts c seen =
    c.loop-job.invariant.so_far seen c.loop-job.hooks c.loop-job.text.items
    (putting_none job_of c.loop-job.job-iterator.rest.items c.loop-job.job-iterator.rest.len c.loop-job.hooks seen _
    c.loop-job.job-iterator.rest.ok.0 c.in-None.ensures.steps.0)
