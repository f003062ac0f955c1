-- The text of a lab: what its clients and its peer send, line by line of the schedule, and which leases are held.
use Rattle.std.specs.Prelude.{ℕ, ◌+◌, Bool, true, false, List, [], ◌∷◌, ◌++◌, map, flat_map, length, codes, decimal, Option, Some, None}
use Rattle.net_types.specs.declared.interface.IfIndex.{IfIndex}
use Rattle.net_types.specs.declared.address.Net4.{Net4}
use Rattle.net_types.specs.AddressText.{net4_text}
use Rattle.net_types.specs.HexText.{hex_text}
use Rattle.net_types.specs.TextLines as texts
use Rattle.lease_text.specs.Leases.{LeaseContent}
use Rattle.client_model.specs.V4Client.Clients.{held_of}
use Rattle.settings.specs.declared.interfaces.Managed.{Managed}
use Rattle.client_model.specs.declared.interfaces.Iface.{Iface}
use Rattle.client_model.specs.Clients.{Sending}
use Rattle.lab_schedule.specs.declared.event.LabEvent.{LabEvent}
use Rattle.lab_schedule.specs.Schedules.{Schedule}
use Rattle.lab_model.specs.Labs.{Lab, LabStep, lab_opened, lab_step, no_lab}
use Rattle.lab_model.specs.Exchanges.{xids_unlike}

pub data LabLine : Type 0 where
  At : (moment : ℕ) → LabLine
  -- a frame of the clients, by its number, and one of the peer
  ClientFrame : (number : ℕ) → (bytes : List ℕ) → LabLine
  PeerFrame : (number : ℕ) → (bytes : List ℕ) → LabLine
  -- the address of a lease that an interface holds
  Lease : IfIndex → Net4 → LabLine
  XidsUnlike : LabLine
  XidsRepeat : LabLine

-- ---- texts

-- a number, a blank, and what it is of
abbrev pub of_number : ℕ → (text : List ℕ) → List ℕ
of_number number text = decimal number ++ 32 ∷ text

abbrev pub line_text : LabLine → texts.Line
line_text (At moment) = codes "at " ++ decimal moment
line_text (ClientFrame number bytes) = codes "client " ++ of_number number (hex_text bytes)
line_text (PeerFrame number bytes) = codes "peer " ++ of_number number (hex_text bytes)
line_text (Lease iface net) = codes "lease " ++ of_number iface.number (net4_text net)
line_text XidsUnlike = codes "xids unlike"
line_text XidsRepeat = codes "xids repeat"

abbrev pub lines_text : List LabLine → List ℕ
lines_text lines = texts.lines_text (map line_text lines)

-- ---- the lines of a line of the schedule

-- the clients' frames, so many having been sent before
abbrev pub client_lines : (before : ℕ) → List Sending → List LabLine
client_lines before [] = []
client_lines before (sending ∷ sends) = ClientFrame (before + 1) sending.bytes ∷ client_lines (before + 1) sends

abbrev pub peer_lines : (before : ℕ) → Option (List ℕ) → List LabLine
peer_lines before None = []
peer_lines before (Some bytes) = PeerFrame (before + 1) bytes ∷ []

abbrev pub held_line : IfIndex → (held : Option LeaseContent) → List LabLine
held_line iface None = []
held_line iface (Some lease) = Lease iface lease.net ∷ []

abbrev pub lease_line : Iface → List LabLine
lease_line iface = held_line iface.managed.spec.index (held_of iface.dhcp4)

-- the leases that are held, in order of the interfaces
abbrev pub lease_lines : List Iface → List LabLine
lease_lines ifaces = flat_map lease_line ifaces

-- `before` is the lab that made the step
abbrev pub lines_of : (before : Lab) → LabStep → List LabLine
lines_of before step =
    At step.lab.clock
    ∷
    (client_lines (length before.sent) step.sends
    ++ (peer_lines (length before.made) step.makes ++ lease_lines step.lab.client.ifaces))

-- ---- the text

abbrev pub last_line : (unlike : Bool) → LabLine
last_line true = XidsUnlike
last_line false = XidsRepeat

-- the lines of these events, and the last one
abbrev pub lines_from : List LabEvent → Lab → List LabLine
lines_from [] lab = last_line (xids_unlike lab.sent) ∷ []
lines_from (event ∷ events) lab = lines_of lab (lab_step event lab) ++ lines_from events (lab_step event lab).lab

-- the lines of a schedule, of whose interfaces these are managed
abbrev pub lab_lines : List Managed → Schedule → List LabLine
lab_lines managed schedule =
    lines_of (no_lab schedule.pool) (lab_opened managed schedule)
    ++ lines_from schedule.events (lab_opened managed schedule).lab

unfoldable pub lab_text : List Managed → Schedule → List ℕ
lab_text managed schedule = lines_text (lab_lines managed schedule)
