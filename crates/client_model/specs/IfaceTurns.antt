-- A turn of one interface: a failed send of the turn before, the ticks of its machines, and its input.
use Rattle.std.specs.Prelude.{ℕ, ◌==◌, if◌then◌else◌, List, Option, Some, None, option_and_then}
use Rattle.net_types.specs.declared.address.Mac.{Mac}
use Rattle.frame_link.specs.declared.arp.ArpView.{ArpView}
use Rattle.frame_link.specs.Frames.{Frame as EthernetFrame, frame_in}
use Rattle.frame_link.specs.Packets.{arp_kind, arp_in}
use Rattle.v4_client.specs.V4Frames.Heard.{HeardMessage, heard4_in}
use Rattle.v6_frames.specs.Heard.{HeardMessage6, heard6_in}
use Rattle.world.specs.declared.wakes.Event.{Event}
use Rattle.world.specs.declared.wakes.Event.TheVariants.{Frame, Carrier, Duplicate, Release, Rebind, Stop, Quiet, End}
use Rattle.client_model.specs.declared.interfaces.Iface.{Iface}
use Rattle.client_model.specs.IfaceSteps.{IfaceStep, index_of, silent, then_step}
use Rattle.client_model.specs.Dhcp4Steps.{arrival_at, dhcp4_packet, dhcp4_takes}
use Rattle.client_model.specs.Dhcp6Steps.{contested, dhcp6_takes}
use Rattle.client_model.specs.LocalSteps.{local_hears}
use Rattle.client_model.specs.Interfaces.{unsent_in, ticked, carried, released, rebound, halted}

-- the ARP packet that a frame carries, of any destination
abbrev pub arp_of_frame : EthernetFrame → Option ArpView
arp_of_frame frame = if frame.kind == arp_kind then arp_in frame.body else None

abbrev pub arp_heard : List ℕ → Option ArpView
arp_heard bytes = option_and_then arp_of_frame (frame_in bytes)

-- both machines hear a packet
abbrev pub hears_packet : List Mac → (at salt : ℕ) → ArpView → Iface → IfaceStep
hears_packet own at salt arp iface = then_step (dhcp4_packet own at salt arp iface) (local_hears own at salt arp)

abbrev pub hears_message6 : (at salt : ℕ) → Option HeardMessage6 → Iface → IfaceStep
hears_message6 at salt None iface = silent iface
hears_message6 at salt (Some heard) iface = dhcp6_takes at salt heard iface

-- a server's message, of DHCPv4 or of DHCPv6
abbrev pub hears_message : (at salt : ℕ) → Option HeardMessage → Option HeardMessage6 → Iface → IfaceStep
hears_message at salt (Some heard) message6 iface = dhcp4_takes at salt (arrival_at at heard) iface
hears_message at salt None message6 iface = hears_message6 at salt message6 iface

-- an ARP packet, or a server's message
abbrev pub hears_either : List Mac → (at salt : ℕ) → Option ArpView → Option HeardMessage → Option HeardMessage6 → Iface
    → IfaceStep
hears_either own at salt (Some arp) message message6 iface = hears_packet own at salt arp iface
hears_either own at salt None message message6 iface = hears_message at salt message message6 iface

abbrev pub hears : List Mac → (at salt : ℕ) → List ℕ → Iface → IfaceStep
hears own at salt bytes iface =
    hears_either own at salt (arp_heard bytes) (heard4_in iface.managed.spec.mac bytes)
    (heard6_in iface.managed.spec.mac bytes) iface

-- what comes of an input that an interface takes
abbrev pub taken : List Mac → (at salt : ℕ) → Event → List ℕ → Iface → IfaceStep
taken own at salt (Frame index len) bytes iface =
    if index_of iface == index then hears own at salt bytes iface else silent iface
taken own at salt (Carrier index up) bytes iface =
    if index_of iface == index then carried at salt up iface else silent iface
taken own at salt (Duplicate index addr) bytes iface =
    if index_of iface == index then contested at salt addr iface else silent iface
taken own at salt (Release index) bytes iface = if index_of iface == index then released at salt iface else silent iface
taken own at salt (Rebind index) bytes iface = if index_of iface == index then rebound at salt iface else silent iface
taken own at salt Stop bytes iface = halted at salt iface
taken own at salt Quiet bytes iface = silent iface
taken own at salt End bytes iface = silent iface

-- After a stop every input counts as quiet.
abbrev pub input_step : List Mac → (at salt : ℕ) → Event → List ℕ → Iface → IfaceStep
input_step own at salt event bytes iface = if iface.stopped then silent iface else taken own at salt event bytes iface

-- a turn as the interfaces meet it: its moment, never before the last one's; its salt; which interfaces had a failed
-- send in the last turn; and its input with the bytes of a frame
pub record Turn : Type 0 where
  pub at : ℕ
  pub salt : ℕ
  pub unsent : ℕ
  pub event : Event
  pub bytes : List ℕ

-- a failed send of the turn before, the ticks of its machines, and then the input
abbrev pub iface_turned : List Mac → Turn → Iface → IfaceStep
iface_turned own turn iface =
    then_step (ticked turn.at turn.salt (unsent_in turn.unsent turn.at turn.salt iface))
    (input_step own turn.at turn.salt turn.event turn.bytes)
