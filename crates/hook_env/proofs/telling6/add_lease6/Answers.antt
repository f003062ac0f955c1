use Rattle.lease6_text.specs.Leases.{lease6_content}
use Rattle.hook_env.specs.declared.variables.TheConstants.{LEASE6_VARIABLES}
use Rattle.hook_env.specs.Lease6Variables.{lease6_told}
use Rattle.hook_env.proofs.ToldSteps.{told_more}
use Rattle.hook_env.proofs.telling6.add_lease6.Goals as goal

pub loop-variable-preserved : goal.loop-variable-preserved
loop-variable-preserved c =
    told_more (lease6_told c.args.stage (lease6_content c.args.lease.now)) LEASE6_VARIABLES c.loop-variable.variable-index _
    c.loop-variable-test.true _ _ _ c.loop-variable.invariant c.in_ok-push_lease6.ensures
