use Rattle.std.proofs.Common.{List, ◌++◌, get_or, ◌∙◌, ap}
use Rattle.v4_options.specs.OptionArea.{Instance}
use Rattle.v4_options.specs.OptionViews.{view_instances}
use Rattle.v4_options.specs.declared.table.TheConstants.{KEPT_CODES}
use Rattle.lease_text.specs.Leases.{values_content}
use Rattle.v4_client.specs.Granting.{kept_of}
use Rattle.v4_client.proofs.KeptValues.{one_more}
use Rattle.v4_client.proofs.options.kept_values.Goals as goal

pub loop-code-preserved : goal.loop-code-preserved
loop-code-preserved c =
    one_more (kept_of c.args.refused.now (view_instances c.args.view.now)) KEPT_CODES c.loop-code.code-index _ _
    c.loop-code-test.true c.loop-code.invariant
    (c.in_ok-push_kept.ensures
    ∙ ap (λ (all : List Instance). values_content c.loop-code.values.items ++ kept_of c.args.refused.now all (get_or KEPT_CODES c.loop-code.code-index 0))
    c.of-index.ensures)
