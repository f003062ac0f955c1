use Rattle.std.proofs.Common.{take}
use Rattle.std.specs.List.{AllByRecursion}
use Rattle.lease6_text.specs.Bounds.{IsTypedIa}
use Rattle.lease6_text.specs.Leases.{ias_content}
use Rattle.lease6_text.proofs.typed.ias_are_typed.Given as goal

abbrev pub invariant-loop-ia : goal.invariant-loop-ia
invariant-loop-ia l = AllByRecursion IsTypedIa (ias_content (take l.ia-index l.ias))
