-- Whether an address rests on what an interface showed, by what each judge of it tells.
use Rattle.std.specs.Prelude.{ℕ, Bool, ◌||◌, List}
use Rattle.net_types.specs.declared.address.Net.{Net}
use Rattle.net_types.specs.declared.interface.IfIndex.{IfIndex}
use Rattle.evidence_words.specs.Entries.{Entry}
use Rattle.evidence_words.specs.IfaceLives.{now_in}
use Rattle.evidence_words.specs.Inputs.{Site}
use Rattle.static_judge.specs.Judge as statics
use Rattle.lease_judge.specs.LocalJudges.Judge as local
use Rattle.lease_judge.specs.Leased.{is_leased}
use Rattle.item_judge.specs.Judging.{is_given}
use Rattle.share_judge.specs.KeptJudge.Asking4.{is_kept4}
use Rattle.share_judge.specs.KeptJudge.Asking6.{is_kept_address6}
use Rattle.share_judge.specs.KeptShares.{is_kept_share}
use Rattle.iface_judge.specs.HeardShares.{is_heard_share}

-- for a kept lease of DHCPv4 or of DHCPv6
abbrev pub is_kept : Site → Net → List Entry → Bool
is_kept site net past = is_kept4 site net (now_in past) past || is_kept_address6 site net (now_in past) past

-- for a lease that a server gave
abbrev pub is_granted : Site → Net → List Entry → Bool
is_granted site net past = is_leased site net (now_in past) past || is_given site net (now_in past) past

abbrev pub has_lease : Site → Net → List Entry → Bool
has_lease site net past = is_granted site net past || is_kept site net past

-- without a lease: as a static address, or as a link-local one
abbrev pub stands : Site → Net → List Entry → Bool
stands site net past = statics.gives_in site net past || local.gives_in site net past

-- on the interface itself, at the moment of the last turn
abbrev pub is_own : Site → Net → List Entry → Bool
is_own site net past = stands site net past || has_lease site net past

abbrev pub of_number : ℕ → IfIndex
of_number number = record { number = number }

-- on the interface of this number, as a share of the prefixes of this one
abbrev pub is_shared : Site → ℕ → Net → List Entry → Bool
is_shared site number net past =
    is_heard_share site (of_number number) net past
    || is_kept_share site (of_number number) net (now_in past) past
