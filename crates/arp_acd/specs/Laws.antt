use Rattle.std.specs.Prelude.{◌≡◌, ℕ, ◌+◌, ◌<◌, ◌≤◌, true, List, MatchOption}
use Rattle.net_types.specs.declared.address.Ip4.{Ip4}
use Rattle.net_types.specs.declared.address.Mac.{Mac}
use Rattle.net_types.specs.declared.interface.IfIndex.{IfIndex}
use Rattle.frame_link.specs.declared.arp.ArpView.{ArpView}
use Rattle.arp_acd.specs.declared.detection.Acd.{Acd}
use Rattle.arp_acd.specs.declared.detection.AcdSays.TheVariants.{Passed, SayAnnounce, GivenUp}
use Rattle.arp_acd.specs.declared.detection.Phase.{Phase}
use Rattle.arp_acd.specs.declared.detection.Phase.TheVariants.{Probing, Announcing, Held, Over}
use Rattle.arp_acd.specs.declared.timing.TheConstants.{PROBE_NUM, ANNOUNCE_WAIT, DEFEND_INTERVAL}
use Rattle.arp_acd.specs.Conflict.{is_used}
use Rattle.arp_acd.specs.Table.{AcdStep, acd_begun, acd_hears}
use Rattle.arp_acd.specs.History.{AcdEvent, moment, acd_step, acd_after, acd_history, Probes, probes_sent, last_defence}

-- What holds of conflict detection over every list of events from its begin on.

-- No address passes before three probes were sent, a second or more apart, and two seconds of quiet after the third:
-- from the first of the three on no send failed and no packet contested the address. Nor is a probe whose send failed
-- among the three: three were sent since the last send that failed.
pub record PassesProbed (own : List Mac) (addr : Ip4) (start : Acd) (past : List AcdEvent)
    (event : AcdEvent) : Type 0 where
  pub probed : Probes own addr PROBE_NUM ANNOUNCE_WAIT (moment event) (acd_history own start past)
  pub counted : probes_sent (acd_history own start past) ≡ PROBE_NUM

abbrev pub PassesAfterProbes : Type 0
PassesAfterProbes =
    (own : List Mac) (iface : IfIndex) (addr : Ip4) (at salt : ℕ) (past : List AcdEvent) (event : AcdEvent)
    → let start : Acd = acd_begun iface addr at salt in
    (acd_step own (acd_after own start past) event).says ≡ Passed → PassesProbed own addr start past event

-- The address has passed and wasn't given up.
abbrev pub IsInUse : Phase → Type 0
IsInUse (Probing sent due) = ⊥
IsInUse (Announcing due last) = Unit {0}
IsInUse (Held last) = Unit {0}
IsInUse Over = ⊥

pub record IsGivenUp (step : AcdStep) : Type 0 where
  pub told : step.says ≡ GivenUp
  pub over : step.acd.phase ≡ Over

-- An address in use that another host is heard to use is defended at the first conflict and at each one that comes ten
-- seconds or more after the last one. At an earlier one it is given up.
pub record AnswersConflict (before at : ℕ) (step : AcdStep) : Type 0 where
  pub soon : at < before + DEFEND_INTERVAL → IsGivenUp step
  pub late : before + DEFEND_INTERVAL ≤ at → step.says ≡ SayAnnounce

abbrev pub GivesUpContestedTwice : Type 0
GivesUpContestedTwice =
    (own : List Mac) (iface : IfIndex) (addr : Ip4) (at salt : ℕ) (past : List AcdEvent) (arp : ArpView) (now : ℕ)
    → let start : Acd = acd_begun iface addr at salt in
    let acd : Acd = acd_after own start past in
    let step : AcdStep = acd_hears own acd arp now in
    IsInUse acd.phase → is_used own addr arp ≡ true
    → MatchOption (last_defence (acd_history own start past)) (step.says ≡ SayAnnounce)
    (λ before. AnswersConflict before now step)
