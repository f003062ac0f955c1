-- None of the items so far gives it.
use Rattle.std.proofs.Common.{◌≡◌, drop}
use Rattle.std.specs.List.{list_any}
use Rattle.share_judge.specs.KeptShares.{item_shares}
use Rattle.share_judge.proofs.kept.items_share.Given as goal

abbrev pub invariant-loop-item : goal.invariant-loop-item
invariant-loop-item l =
    list_any (item_shares l.upstream l.index l.net l.now l.iaid) l.items
    ≡ list_any (item_shares l.upstream l.index l.net l.now l.iaid) (drop l.item-index l.items)
