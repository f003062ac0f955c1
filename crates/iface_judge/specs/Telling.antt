-- What the judges of an interface hold together after some turns.
use Rattle.std.specs.Prelude.{◌≡◌, ℕ, true, List, map, Option, IfSome, option_map}
use Rattle.net_types.specs.AddressText.{FitsIp4}
use Rattle.net_types.specs.declared.address.Ip4.{Ip4}
use Rattle.audit_words.specs.Shown.{offer_shown}
use Rattle.audit_words.specs.declared.shown.Offer.{Offer}
use Rattle.evidence_words.specs.Entries.{Entry, offers_on}
use Rattle.evidence_words.specs.Inputs.{Site, has_carrier, index_at}
use Rattle.static_judge.specs.ProbeTables.ProbeTimes.{times_in}
use Rattle.static_judge.specs.Judge as of_statics
use Rattle.lease_judge.specs.LocalJudges.Choices.{choice_in, is_calm}
use Rattle.lease_judge.specs.LocalJudges.Judge as of_local
use Rattle.lease_judge.specs.LocalJudges.Settled as local_turns
use Rattle.lease_judge.specs.LocalJudges.declared.choices.Choice.{Choice}
use Rattle.lease_judge.specs.LocalJudges.declared.judge.LocalJudge.{LocalJudge}
use Rattle.lease_judge.specs.ProbedTurns as lease_turns
use Rattle.lease_judge.specs.Turns as of_lease
use Rattle.lease_judge.specs.Turns.{JudgeContent}
use Rattle.item_judge.specs.Lease6Evidence.Exchanges6.{message6_of}
use Rattle.item_judge.specs.Judging as of_items
use Rattle.share_judge.specs.KeptJudge.Asking4.{Tells4}
use Rattle.share_judge.specs.KeptJudge.Asking6.{Tells6, spoken_of}
use Rattle.share_judge.specs.KeptJudge.declared.standing.Kept6.{Kept6}
use Rattle.share_judge.specs.KeptJudge.declared.standing.Spoken6.{Spoken6}
use Rattle.iface_judge.specs.declared.judge.IfaceJudge.{IfaceJudge}

-- the interface's own messages of DHCPv6 among the frames of a turn, by kind and transaction id
abbrev pub spoken_by : Site → List Offer → List (Option Spoken6)
spoken_by site offers =
    map (option_map spoken_of) (map (message6_of site) (offers_on (index_at site) (map offer_shown offers)))

-- how far servers were asked for the kept lease of DHCPv6; nothing is told where none was kept
abbrev pub TellsKept6 : Kept6 → Site → List Entry → Type 0
TellsKept6 kept site past = IfSome site.kept6 (λ lease. Tells6 kept site past)

-- when another host used the address of a choice last, if that stands
abbrev pub use_of : Option Choice → Option (Option ℕ)
use_of choice = option_map (λ c. c.used) choice

-- After other turns the same link-local addresses stand, and another host used them last at the same moments. Since
-- which turn each stands may differ: a turn in which nothing comes changes no more of a choice.
pub record AreAlike (site : Site) (one other : List Entry) : Type 0 where
  pub up : has_carrier site one ≡ has_carrier site other
  pub times : (addr : Ip4) → times_in (is_calm site) site addr one ≡ times_in (is_calm site) site addr other
  pub uses : (addr : Ip4) → FitsIp4 addr → use_of (choice_in site addr one) ≡ use_of (choice_in site addr other)

-- what is kept to tell link-local addresses is that of turns that are alike for them
pub record TellsLocal (judge : LocalJudge) (site : Site) (past : List Entry) : Type 0 where
  pub seen : List Entry
  pub tells : of_local.Tells judge site seen
  pub alike : AreAlike site seen past

-- A turn in which nothing comes and nothing is offered changes neither which link-local addresses stand nor which
-- addresses are probed ones.
pub record AreSettled (local : LocalJudge) (lease : JudgeContent) : Type 0 where
  pub local_settled : (site : Site) (past : List Entry) → of_local.Tells local site past
      → local_turns.IsSettled site past
  pub lease_settled : (site : Site) (past : List Entry) → of_lease.Tells lease site past
      → lease_turns.IsSettled site past

-- Each of them holds what it is to hold after these turns.
pub record Tells (judge : IfaceJudge) (site : Site) (past : List Entry) : Type 0 where
  pub statics : of_statics.Tells judge.statics site past
  pub local : TellsLocal judge.local site past
  pub lease : of_lease.Tells judge.lease site past
  pub items : of_items.Tells judge.items site past
  pub kept4 : Tells4 judge.kept4 site past
  pub kept6 : TellsKept6 judge.kept6 site past
  pub settled : judge.settled ≡ true → AreSettled judge.local judge.lease
