use Rattle.std.proofs.Common.{◌≡◌, take}
use Rattle.std.specs.List.{flat_map}
use Rattle.v4_options.specs.OptionViews.{view_instances}
use Rattle.v4_options.specs.declared.table.TheConstants.{KEPT_CODES}
use Rattle.lease_text.specs.Leases.{values_content}
use Rattle.v4_client.specs.Granting.{kept_of}
use Rattle.v4_client.proofs.options.kept_values.Given as goal

abbrev pub invariant-loop-code : goal.invariant-loop-code
invariant-loop-code l =
    values_content l.values.items
    ≡ flat_map (kept_of l.refused (view_instances l.view)) (take l.code-index KEPT_CODES)
