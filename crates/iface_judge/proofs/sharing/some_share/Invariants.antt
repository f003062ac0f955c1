-- No share so far gives the address.
use Rattle.std.proofs.Common.{◌≡◌, List, drop}
use Rattle.std.specs.List.{list_any}
use Rattle.evidence_words.specs.Entries.{Entry}
use Rattle.evidence_words.specs.IfaceLives.{now_in}
use Rattle.audit_words.specs.Shown.{site_shown}
use Rattle.item_judge.specs.Judging.{Tells}
use Rattle.iface_judge.specs.HeardShares.{is_of_some}
use Rattle.iface_judge.proofs.sharing.some_share.Given as goal

abbrev pub invariant-loop-share : goal.invariant-loop-share
invariant-loop-share l =
    (past : List Entry) → l.moment ≡ now_in past → Tells l.items (site_shown l.upstream) past
    → list_any (λ share. is_of_some (site_shown l.upstream) l.index l.net past share 128) l.shares
    ≡ list_any (λ share. is_of_some (site_shown l.upstream) l.index l.net past share 128) (drop l.share-index l.shares)
