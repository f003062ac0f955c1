use Rattle.child_devices.proofs.ScriptCalls.{job_goes_on, one_taken}
use Rattle.child_devices.proofs.children.job_call.Goals as goal

pub loop-var-preserved : goal.loop-var-preserved
loop-var-preserved c =
    job_goes_on _ _ _ _ _ _
    (one_taken c.args.vars.now c.loop-var.var-index c.var-item.result c.var-item.is c.loop-var-test.true) c.loop-var.invariant c.in_ok-say.ensures
