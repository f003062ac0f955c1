-- What is told of the link's own calls: they are noted as they are answered, and each note rests on the calls of the
-- system.
use Rattle.std.specs.Prelude.{ℕ, true, false, ◌≡◌, ◌⊎◌, List, [], ◌∷◌, ◌++◌, length, Option, Some, None, IfSome}
use Rattle.world.specs.declared.wakes.Event.TheVariants.{Quiet}
use Rattle.world.specs.declared.wakes.Wake.{Wake}
use Rattle.world.specs.LinkCalls.{LinkCall, Waited, Offered, given_in}
use Rattle.loop_link.specs.declared.loopback.LinkNote.{LinkNote}
use Rattle.loop_link.specs.declared.loopback.LinkNote.TheVariants as Note
use Rattle.loop_link.specs.Datagrams.{frame_datagram}
use Rattle.loop_link.specs.Waits.{Brought, SaysOf, heard_from}
use Rattle.loop_link.specs.WireCalls as Wire
use Rattle.loop_link.specs.WireCalls.{WireCall}

-- the call that is noted
abbrev pub noted_call : LinkNote → LinkCall
noted_call (Note.Woke until wake buffer) = Waited until (Some (given_in buffer.now wake))
noted_call (Note.NotWoken until) = Waited until None
noted_call (Note.Sent iface frame) = Offered iface frame.now true
noted_call (Note.Unsent iface frame) = Offered iface frame.now false

abbrev pub noted : LinkNote → List LinkCall → List LinkCall
noted note calls = calls ++ noted_call note ∷ []

-- ---- what a note rests on

-- a wake is quiet, or has the event of the last datagram of the peer
abbrev pub SaysLast : (heard : List (List ℕ)) → Brought → Type 0
SaysLast [] brought = brought.event ≡ Quiet
SaysLast (datagram ∷ earlier) brought = (brought.event ≡ Quiet) ⊎ SaysOf datagram brought

abbrev pub woken_by : Wake → (buffer : List ℕ) → Brought
woken_by wake buffer = record { event = wake.event; room = length buffer; buffer = buffer }

abbrev pub HeardLast : (peer : ℕ) → Brought → Option (List WireCall) → Type 0
HeardLast peer brought calls = IfSome calls (λ made. SaysLast (heard_from peer made) brought)

-- the last call sent these bytes to this port
abbrev pub IsSent : (datagram : List ℕ) → (port : ℕ) → List WireCall → Type 0
IsSent datagram port [] = ⊥
IsSent datagram port (call ∷ earlier) = call ≡ Wire.Sent datagram port None

abbrev pub SentLast : (peer iface : ℕ) → (frame : List ℕ) → Option (List WireCall) → Type 0
SentLast peer iface frame calls = IfSome calls (λ made. IsSent (frame_datagram iface frame) peer made)

-- That a call failed may rest on no call of the system.
abbrev pub RestsOn : (peer : ℕ) → LinkNote → Option (List WireCall) → Type 0
RestsOn peer (Note.Woke until wake buffer) calls = HeardLast peer (woken_by wake buffer.now) calls
RestsOn peer (Note.NotWoken until) calls = Unit {0}
RestsOn peer (Note.Sent iface frame) calls = SentLast peer iface frame.now calls
RestsOn peer (Note.Unsent iface frame) calls = Unit {0}
