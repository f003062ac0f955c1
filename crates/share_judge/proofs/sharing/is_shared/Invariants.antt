-- None of the prefixes so far gives it.
use Rattle.std.proofs.Common.{◌≡◌, drop}
use Rattle.share_judge.specs.Sharing.{is_shared}
use Rattle.share_judge.proofs.sharing.is_shared.Given as goal

abbrev pub invariant-loop-one : goal.invariant-loop-one
invariant-loop-one l = is_shared l.upstream l.index l.net l.held ≡ is_shared l.upstream l.index l.net (drop l.one-index l.held)
