use Rattle.std.specs.Prelude.{◌≡◌, ℕ, ◌+◌, ◌-◌, List, Option, Some, None, nat_eq, nat_lt, nat_le, if◌then◌else◌}
use Rattle.machine.specs.Draw.{draw_of}
use Rattle.machine.specs.Moment.{is_due}
use Rattle.net_types.specs.declared.address.Ip4.{Ip4}
use Rattle.net_types.specs.declared.address.Mac.{Mac}
use Rattle.net_types.specs.declared.interface.IfIndex.{IfIndex}
use Rattle.frame_link.specs.declared.arp.ArpView.{ArpView}
use Rattle.arp_acd.specs.declared.detection.Acd.{Acd}
use Rattle.arp_acd.specs.declared.detection.AcdSays.{AcdSays}
use Rattle.arp_acd.specs.declared.detection.AcdSays.TheVariants.{Quiet, SayProbe, SayAnnounce, Passed, Conflict, GivenUp}
use Rattle.arp_acd.specs.declared.detection.Phase.{Phase}
use Rattle.arp_acd.specs.declared.detection.Phase.TheVariants.{Probing, Announcing, Held, Over}
use Rattle.arp_acd.specs.Conflict.{is_used, is_contested}
use Rattle.arp_acd.specs.declared.timing.TheConstants.{PROBE_WAIT, PROBE_NUM, PROBE_MIN, PROBE_MAX, ANNOUNCE_WAIT, ANNOUNCE_INTERVAL, DEFEND_INTERVAL}

-- The table of conflict detection (RFC 5227), a row a case. Moments are in milliseconds.

-- One step: the machine after it, and what it says.
pub record AcdStep : Type 0 where
  pub acd : Acd
  pub says : AcdSays

-- The machine goes on so and says so.
pub record IsStep (step : AcdStep) (acd : Acd) (says : AcdSays) : Type 0 where
  pub goes_on : acd ≡ step.acd
  pub answers : says ≡ step.says

-- The answer says nothing.
abbrev pub IsQuiet : AcdSays → Type 0
IsQuiet says = says ≡ Quiet

abbrev pub moves : Acd → Phase → AcdSays → AcdStep
moves acd phase says = record { acd = record acd { phase = phase }; says = says }

abbrev pub stays : Acd → AcdStep
stays acd = record { acd = acd; says = Quiet }

-- No probe is sent yet, and the first one is due within PROBE_WAIT.
abbrev pub probing_anew : IfIndex → (at salt : ℕ) → Phase
probing_anew iface at salt = Probing 0 (at + draw_of salt iface (PROBE_WAIT + 1))

abbrev pub acd_begun : IfIndex → Ip4 → (at salt : ℕ) → Acd
acd_begun iface addr at salt = record { iface = iface; addr = addr; phase = probing_anew iface at salt }

abbrev pub due_of : Phase → Option ℕ
due_of (Probing sent due) = Some due
due_of (Announcing due last) = Some due
due_of (Held last) = None
due_of Over = None

-- What follows a probe: the next one after PROBE_MIN to PROBE_MAX, or the end of the probing after ANNOUNCE_WAIT.
abbrev pub due_after : IfIndex → (sent : ℕ) → (at salt : ℕ) → ℕ
due_after iface sent at salt =
    if nat_eq sent PROBE_NUM then at + ANNOUNCE_WAIT
    else at + PROBE_MIN + draw_of salt iface (PROBE_MAX - PROBE_MIN + 1)

abbrev pub tick_row : Acd → Phase → (at salt : ℕ) → AcdStep
-- Probing, fewer than PROBE_NUM sent: a probe. So many sent: the address has passed, and is announced.
tick_row acd (Probing sent due) at salt =
    if nat_lt sent PROBE_NUM
    then moves acd (Probing (sent + 1) (due_after acd.iface (sent + 1) at salt)) SayProbe
    else moves acd (Announcing (at + ANNOUNCE_INTERVAL) None) Passed
-- Announcing: the second announcement.
tick_row acd (Announcing due last) at salt = moves acd (Held last) SayAnnounce
tick_row acd (Held last) at salt = stays acd
tick_row acd Over at salt = stays acd

-- A tick: before the due moment nothing happens.
abbrev pub acd_tick : Acd → (at salt : ℕ) → AcdStep
acd_tick acd at salt = if is_due (due_of acd.phase) at then tick_row acd acd.phase at salt else stays acd

-- A conflict over an address that has passed. With none before, or the last one DEFEND_INTERVAL ago or more, the
-- address is defended by an announcement; else it is given up.
abbrev pub contested_row : Acd → (last : Option ℕ) → (at : ℕ) → (defended : Phase) → AcdStep
contested_row acd None at defended = moves acd defended SayAnnounce
contested_row acd (Some last) at defended =
    if nat_le DEFEND_INTERVAL (at - last) then moves acd defended SayAnnounce else moves acd Over GivenUp

abbrev pub heard_row : List Mac → Acd → Phase → ArpView → (at : ℕ) → AcdStep
-- Probing: a conflict ends it.
heard_row own acd (Probing sent due) arp at =
    if is_contested own acd.addr arp then moves acd Over Conflict else stays acd
-- Announcing and Held: the address is defended, which leaves the due moment as it is, or given up.
heard_row own acd (Announcing due last) arp at =
    if is_used own acd.addr arp then contested_row acd last at (Announcing due (Some at)) else stays acd
heard_row own acd (Held last) arp at =
    if is_used own acd.addr arp then contested_row acd last at (Held (Some at)) else stays acd
heard_row own acd Over arp at = stays acd

abbrev pub acd_hears : List Mac → Acd → ArpView → (at : ℕ) → AcdStep
acd_hears own acd arp at = heard_row own acd acd.phase arp at

abbrev pub unsent_row : IfIndex → Phase → (at salt : ℕ) → Phase
-- Probing, one sent or more: the probing begins anew.
unsent_row iface (Probing sent due) at salt =
    if nat_lt 0 sent then probing_anew iface at salt else Probing sent due
unsent_row iface (Announcing due last) at salt = Announcing due last
unsent_row iface (Held last) at salt = Held last
unsent_row iface Over at salt = Over

-- A frame of the interface could not be sent.
abbrev pub acd_restarts : Acd → (at salt : ℕ) → Acd
acd_restarts acd at salt = record acd { phase = unsent_row acd.iface acd.phase at salt }

-- The address while it is in use.
abbrev pub held_in : Ip4 → Phase → Option Ip4
held_in addr (Probing sent due) = None
held_in addr (Announcing due last) = Some addr
held_in addr (Held last) = Some addr
held_in addr Over = None
