use Rattle.std.proofs.Common.{◌≡◌, ◌++◌, map, take}
use Rattle.std.specs.String.{string_bytes}
use Rattle.hook_env.specs.Lease6Variables.{address_item}
use Rattle.hook_env.proofs.telling6.add_addresses.Given as goal

abbrev pub invariant-loop-item : goal.invariant-loop-item
invariant-loop-item l =
    map (λ text. string_bytes text) l.texts.items ≡ map (λ text. string_bytes text) l.fn.texts.items ++ map address_item (take l.item-index l.items)
