-- None of the IAs so far gives it.
use Rattle.std.proofs.Common.{◌≡◌, drop}
use Rattle.std.specs.List.{list_any}
use Rattle.lease6_text.specs.Leases.{ias_content}
use Rattle.share_judge.specs.KeptShares.{ia_shares}
use Rattle.share_judge.proofs.kept.ias_share.Given as goal

abbrev pub invariant-loop-ia : goal.invariant-loop-ia
invariant-loop-ia l =
    list_any (ia_shares l.upstream l.index l.net l.now) (ias_content l.ias)
    ≡ list_any (ia_shares l.upstream l.index l.net l.now) (ias_content (drop l.ia-index l.ias))
