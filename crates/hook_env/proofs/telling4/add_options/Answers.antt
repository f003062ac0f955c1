use Rattle.lease_text.specs.Leases.{values_content}
use Rattle.v4_options.specs.declared.table.TheConstants.{OPTIONS}
use Rattle.hook_env.specs.LeaseVariables.{option_told}
use Rattle.hook_env.proofs.ToldSteps.{told_more}
use Rattle.hook_env.proofs.telling4.add_options.Goals as goal

pub loop-row-preserved : goal.loop-row-preserved
loop-row-preserved c =
    told_more (option_told c.args.stage (values_content c.args.values.now)) OPTIONS c.loop-row.row-index _
    c.loop-row-test.true _ _ _ c.loop-row.invariant c.in_ok-push_option.ensures
