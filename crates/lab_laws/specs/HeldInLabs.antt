-- That no two clients of a lab hold one leased address at one moment, and that each lease ends no later than the peer's
-- binding (RFC 2131, sections 2.2 and 4.3.1).
use Rattle.std.specs.Prelude.{◌≡◌, ℕ, List, [], ◌∷◌, ◌++◌, codes, IfSome}
use Rattle.std.specs.List.{AllByRecursion}
use Rattle.net_types.specs.declared.address.Ip4.{Ip4}
use Rattle.net_types.specs.TextLines.{ended}
use Rattle.v4_client.specs.Clients.{held_of}
use Rattle.settings.specs.declared.interfaces.Managed.{Managed}
use Rattle.client_model.specs.declared.interfaces.Iface.{Iface}
use Rattle.lab_peer.specs.Bindings.{lease_end}
use Rattle.lab_peer.specs.Granting.{IsBoundUntil}
use Rattle.lab_schedule.specs.declared.event.LabEvent.{LabEvent}
use Rattle.lab_schedule.specs.declared.event.LabEvent.TheVariants.{Tick, Carrier, Release, Give, Hear}
use Rattle.lab_schedule.specs.Schedules.{FitsSchedule, Schedule}
use Rattle.lab_model.specs.LabLines.{LabLine, At, ClientFrame, PeerFrame, Lease, XidsUnlike, XidsRepeat, lab_lines, lab_text}
use Rattle.lab_model.specs.Labs.{Lab, lab_opened, lab_step}
use Rattle.lab_laws.specs.LabClients.{AreClients}

-- the text of the lab ends with `xids unlike`
pub record EndsUnlike (managed : List Managed) (schedule : Schedule) : Type 0 where
  pub front : List LabLine
  pub is : lab_lines managed schedule ≡ front ++ XidsUnlike ∷ []

-- so where the bytes of the text do
abbrev pub UnlikeIsRead : Type 0
UnlikeIsRead = (managed : List Managed) (schedule : Schedule) (front : List ℕ)
    → lab_text managed schedule ≡ front ++ ended (codes "xids unlike") → EndsUnlike managed schedule

-- ---- addresses

-- The `lease` lines below each `at` line have unlike addresses. Those so far have these.
abbrev pub ApartFrom : (held : List Ip4) → List LabLine → Type 0
ApartFrom held [] = Unit {0}
ApartFrom held (At moment ∷ lines) = ApartFrom [] lines
ApartFrom held (ClientFrame number bytes ∷ lines) = ApartFrom held lines
ApartFrom held (PeerFrame number bytes ∷ lines) = ApartFrom held lines
ApartFrom held (Lease iface net ∷ lines) =
    AllByRecursion (λ other. net.ip ≡ other → ⊥) held × ApartFrom (net.ip ∷ held) lines
ApartFrom held (XidsUnlike ∷ lines) = ApartFrom held lines
ApartFrom held (XidsRepeat ∷ lines) = ApartFrom held lines

abbrev pub NoAddressTwice : Type 0
NoAddressTwice = (managed : List Managed) (schedule : Schedule) → AreClients managed → FitsSchedule schedule
    → EndsUnlike managed schedule → ApartFrom [] (lab_lines managed schedule)

-- ---- ends

-- The lease that a client holds ends no later than the binding of its address to that client's hardware address.
abbrev pub EndsWithBinding : Lab → Iface → Type 0
EndsWithBinding lab iface =
    IfSome (held_of iface.dhcp4)
    (λ lease. IsBoundUntil lease.net.ip iface.managed.spec.mac (lease_end lease.lease lease.first) lab.peer)

abbrev pub EachEndsWithBinding : Lab → Type 0
EachEndsWithBinding lab = AllByRecursion (EndsWithBinding lab) lab.client.ifaces

-- so after a line that gives the clients a turn
abbrev pub EndAfterTurn : LabEvent → Lab → Type 0
EndAfterTurn (Tick at salt) lab = EachEndsWithBinding lab
EndAfterTurn (Carrier at salt iface up) lab = EachEndsWithBinding lab
EndAfterTurn (Release at salt iface) lab = EachEndsWithBinding lab
EndAfterTurn (Give at salt iface frame) lab = EachEndsWithBinding lab
EndAfterTurn (Hear at frame) lab = Unit {0}

abbrev pub EndAfterTurns : List LabEvent → Lab → Type 0
EndAfterTurns [] lab = Unit {0}
EndAfterTurns (event ∷ events) lab =
    EndAfterTurn event (lab_step event lab).lab × EndAfterTurns events (lab_step event lab).lab

abbrev pub LeasesEndWithBindings : Type 0
LeasesEndWithBindings = (managed : List Managed) (schedule : Schedule) → AreClients managed → FitsSchedule schedule
    → EndsUnlike managed schedule
    → let first = (lab_opened managed schedule).lab in EachEndsWithBinding first × EndAfterTurns schedule.events first
