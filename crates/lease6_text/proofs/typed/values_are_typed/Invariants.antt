use Rattle.std.proofs.Common.{take}
use Rattle.std.specs.List.{AllByRecursion}
use Rattle.net_types.specs.Marks.{AreBytes}
use Rattle.lease_text.specs.Leases.{values_content}
use Rattle.lease6_text.proofs.typed.values_are_typed.Given as goal

abbrev pub invariant-loop-value : goal.invariant-loop-value
invariant-loop-value l = AllByRecursion (λ value. AreBytes value.bytes) (values_content (take l.value-index l.values))
