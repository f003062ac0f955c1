-- None of the shares so far gives it.
use Rattle.std.proofs.Common.{◌≡◌, drop}
use Rattle.std.specs.List.{list_any}
use Rattle.share_judge.specs.Sharing.{gives_by}
use Rattle.share_judge.proofs.sharing.some_gives.Given as goal

abbrev pub invariant-loop-share : goal.invariant-loop-share
invariant-loop-share l =
    list_any (gives_by l.index l.net l.held) l.shares ≡ list_any (gives_by l.index l.net l.held) (drop l.share-index l.shares)
