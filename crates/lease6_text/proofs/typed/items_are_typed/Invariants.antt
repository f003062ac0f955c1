use Rattle.std.proofs.Common.{take}
use Rattle.std.specs.List.{AllByRecursion}
use Rattle.net_types.specs.AddressText.{FitsIp6}
use Rattle.lease6_text.proofs.typed.items_are_typed.Given as goal

abbrev pub invariant-loop-item : goal.invariant-loop-item
invariant-loop-item l = AllByRecursion (λ item. FitsIp6 item.net.ip) (take l.item-index l.items)
