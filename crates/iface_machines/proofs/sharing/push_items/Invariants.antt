use Rattle.std.proofs.Common.{◌≡◌, ◌++◌, map, take, flat_map}
use Rattle.client_model.specs.Jobs.{item_told}
use Rattle.iface_machines.specs.Outcomes.{told_content}
use Rattle.iface_machines.proofs.sharing.push_items.Given as goal

abbrev pub invariant-loop-item : goal.invariant-loop-item
invariant-loop-item l =
    map told_content l.told.items ≡ map told_content l.fn.told.items ++ flat_map (item_told l.shares l.kind) (take l.item-index l.items)
