use Rattle.std.proofs.Common.{◌≡◌, ◌++◌, map, take}
use Rattle.v6_message.specs.Requests.{item_of, options_text}
use Rattle.v6_message.proofs.writing.put_items.Given as goal

abbrev pub invariant-items : goal.invariant-items
invariant-items l = l.message.items ≡ l.initial.message.items ++ options_text (map (item_of l.kind) (take l.item-index l.items))
