-- What a datagram of the loopback link says. Its first byte is its kind, the second the interface; the rest is as the
-- kind says. A datagram of no form says nothing, as if time had passed.
use Rattle.std.specs.Prelude.{ℕ, Bool, true, false, ◌&&◌, ◌==◌, nat_le, List, [], ◌∷◌, length, if◌then◌else◌}
use Rattle.net_types.specs.Fields.{ip6_field}
use Rattle.world.specs.declared.wakes.Event.{Event}
use Rattle.world.specs.declared.wakes.Event.TheVariants.{Frame, Carrier, Duplicate, Release, Rebind, Stop, Quiet}
use Rattle.loop_link.specs.declared.datagrams.TheConstants as kind

-- interfaces are numbered from 1 to 64
abbrev pub is_interface : ℕ → Bool
is_interface iface = nat_le 1 iface && nat_le iface 64

-- a frame has no more bytes than the link takes
abbrev pub frame_said : ℕ → List ℕ → Event
frame_said iface frame = if nat_le (length frame) kind.FRAME_LIMIT then Frame iface (length frame) else Quiet

-- the carrier went with 0 and came with 1
abbrev pub carrier_by : ℕ → ℕ → Event
carrier_by iface up = if up == 0 then Carrier iface false else if up == 1 then Carrier iface true else Quiet

abbrev pub carrier_said : ℕ → List ℕ → Event
carrier_said iface (up ∷ []) = carrier_by iface up
carrier_said iface rest = Quiet

-- the sixteen bytes of the address
abbrev pub duplicate_said : ℕ → List ℕ → Event
duplicate_said iface rest = if length rest == 16 then Duplicate iface (ip6_field 0 rest) else Quiet

-- what has no more bytes says this
abbrev pub alone : Event → List ℕ → Event
alone event [] = event
alone event (b ∷ rest) = Quiet

abbrev pub said_of_interface : ℕ → ℕ → List ℕ → Event
said_of_interface k iface rest =
    if k == kind.FRAME then frame_said iface rest
    else if k == kind.CARRIER then carrier_said iface rest
    else if k == kind.DUPLICATE then duplicate_said iface rest
    else if k == kind.RELEASE then alone (Release iface) rest
    else if k == kind.REBIND then alone (Rebind iface) rest
    else Quiet

abbrev pub said_by_kind : ℕ → ℕ → List ℕ → Event
said_by_kind k iface rest =
    if is_interface iface then said_of_interface k iface rest
    else if k == kind.STOP && iface == 0 then alone Stop rest
    else Quiet

abbrev pub event_said : List ℕ → Event
event_said (k ∷ iface ∷ rest) = said_by_kind k iface rest
event_said bytes = Quiet

-- a frame that is sent: its kind, its interface and its bytes
abbrev pub frame_datagram : ℕ → List ℕ → List ℕ
frame_datagram iface frame = kind.FRAME ∷ iface ∷ frame
