-- No prefix of a length so far gives the address.
use Rattle.std.proofs.Common.{◌≡◌, ◌≤◌, false, List}
use Rattle.evidence_words.specs.Entries.{Entry}
use Rattle.evidence_words.specs.IfaceLives.{now_in}
use Rattle.audit_words.specs.Shown.{site_shown}
use Rattle.item_judge.specs.Judging.{Tells}
use Rattle.iface_judge.specs.HeardShares.{is_of_some}
use Rattle.iface_judge.proofs.sharing.is_of_some.Given as goal

abbrev pub invariant-loop-len : goal.invariant-loop-len
invariant-loop-len l = record {
  most : l.len ≤ 128;
  none : (past : List Entry) → l.moment ≡ now_in past → Tells l.items (site_shown l.upstream) past
      → is_of_some (site_shown l.upstream) l.index l.net past l.share l.len ≡ false;
}
