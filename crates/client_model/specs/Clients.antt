-- The client over all managed interfaces: each has a run of its own, and what they say goes out in their order.
use Rattle.std.specs.Prelude.{ℕ, ◌==◌, if◌then◌else◌, List, [], ◌∷◌, map, flat_map, Option, None}
use Rattle.net_types.specs.declared.address.Mac.{Mac}
use Rattle.net_types.specs.declared.interface.IfIndex.{IfIndex}
use Rattle.net_types.specs.declared.interface.IfSpec.{IfSpec}
use Rattle.frame_link.specs.Packets.{probe_text, announcement_text}
use Rattle.v4_client.specs.Machine.Moment.{moment_of}
use Rattle.v4_client.specs.LeaseText.Leases.{LeaseContent}
use Rattle.v6_client.specs.Lease6Text.Leases.{Lease6Content}
use Rattle.v4_client.specs.V4Message.Requests.{AskContent}
use Rattle.v4_client.specs.V4Frames.Spelled as dhcp4
use Rattle.v6_frames.specs.Spelled.{frame6_of}
pub use Rattle.v4_client.specs.Moments.{earlier}
use Rattle.v4_client.specs.Saying.{sent_of}
use Rattle.v4_client.specs.ArpAcd.declared.detection.ArpSay.TheVariants.{Probe, Announce}
use Rattle.world.specs.HookCalls.{Job}
use Rattle.world.specs.declared.rows.HostRow.{HostRow}
use Rattle.world.specs.declared.wakes.Begin.{Begin}
use Rattle.client_model.specs.declared.interfaces.Iface.{Iface}
use Rattle.client_model.specs.Messages.{Said, Arp, Dhcp4, Dhcp6}
use Rattle.client_model.specs.IfaceSteps.{Report, IfaceStep, index_of}
use Rattle.client_model.specs.Interfaces.{opened, iface_due}
use Rattle.client_model.specs.KeptLeases.{Beginning}
use Rattle.client_model.specs.IfaceTurns.{Turn, iface_turned}
use Rattle.client_model.specs.Jobs.{jobs_along}
use Rattle.client_model.specs.WantedRows.{wanted_rows}

-- the client between two turns
pub record Client : Type 0 where
  -- the hardware addresses of all interfaces, managed or not, by which its own packets are known (RFC 5227, section
  -- 2.1.1)
  pub own : List Mac
  -- its managed interfaces, in order of index
  pub ifaces : List Iface

-- a frame that is offered on an interface
pub record Sending : Type 0 where
  pub iface : IfIndex
  pub bytes : List ℕ

-- the frame of a message; `ask` is what the DHCPv4 client says of itself
abbrev pub frame_of : IfSpec → (ask : AskContent) → Said → List ℕ
frame_of spec ask (Dhcp4 say) = dhcp4.frame_of ask (sent_of say)
frame_of spec ask (Arp (Probe addr)) = probe_text spec.mac addr
frame_of spec ask (Arp (Announce addr)) = announcement_text spec.mac addr
frame_of spec ask (Dhcp6 sent) = frame6_of sent

abbrev pub spelled : IfSpec → (ask : AskContent) → Said → Sending
spelled spec ask message = record { iface = spec.index; bytes = frame_of spec ask message }

abbrev pub sends_of : IfaceStep → List Sending
sends_of step = map (spelled step.iface.managed.spec step.iface.dhcp4.settings.ask) step.said

-- how the client goes on, the frames that it offers, what is new, and the jobs of hooks, in order
pub record ClientStep : Type 0 where
  pub client : Client
  pub sends : List Sending
  pub reports : List Report
  pub jobs : List Job

-- the step that the steps of its interfaces make, which were these before
abbrev pub joined : List Mac → (before : List Iface) → List IfaceStep → ClientStep
joined own before steps = record {
  client = record { own = own; ifaces = map (λ step. step.iface) steps };
  sends = flat_map sends_of steps;
  reports = flat_map (λ step. step.reports) steps;
  jobs = jobs_along [] before steps;
}

-- the opening, of one interface after another: `specs` are all interfaces, `beginnings` those that the client manages
abbrev pub opening : List Beginning → (specs : List IfSpec) → Begin → ClientStep
opening beginnings specs begin =
    joined (map (λ spec. spec.mac) specs) [] (map (opened begin.up (moment_of begin.at) begin.salt) beginnings)

abbrev pub steps_of : Turn → Client → List IfaceStep
steps_of turn client = map (iface_turned client.own turn) client.ifaces

abbrev pub client_turned : Turn → Client → ClientStep
client_turned turn client = joined client.own client.ifaces (steps_of turn client)

abbrev pub rows_of : Client → List HostRow
rows_of client = wanted_rows client.ifaces

-- the DHCPv4 lease that the interface of a number keeps, held or not
abbrev pub kept_lease : ℕ → List Iface → Option LeaseContent
kept_lease index [] = None
kept_lease index (iface ∷ ifaces) = if index_of iface == index then iface.dhcp4.kept else kept_lease index ifaces

-- so of DHCPv6
abbrev pub kept_lease6 : ℕ → List Iface → Option Lease6Content
kept_lease6 index [] = None
kept_lease6 index (iface ∷ ifaces) = if index_of iface == index then iface.dhcp6.kept else kept_lease6 index ifaces

-- the earliest moment at which a machine is due
abbrev pub client_due : List Iface → Option ℕ
client_due [] = None
client_due (iface ∷ ifaces) = earlier (iface_due iface) (client_due ifaces)
