use Rattle.std.proofs.Common.{◌≡◌, ◌++◌, map}
use Rattle.v6_options.specs.IaViews.{items_left}
use Rattle.v6_message.specs.Requests.{item_of, options_text}
use Rattle.own_frames6.proofs.writing.put_items.Given as goal

abbrev pub invariant-items : goal.invariant-items
invariant-items l =
    l.message.items ++ options_text (map (item_of l.kind) (map (λ item. item.net) (items_left l.said-iterator)))
    ≡ l.initial.message.items ++ options_text (map (item_of l.kind) (map (λ item. item.net) (items_left l.items)))
