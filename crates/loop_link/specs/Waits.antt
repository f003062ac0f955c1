-- What a wait of the loopback link brings: what the one datagram of the peer says that came in it, or nothing. `old`
-- and `new` are the calls of the system before and after, the last one first.
use Rattle.std.specs.Prelude.{ℕ, ◌≡◌, List, [], ◌∷◌, length, take, drop, Option, None, Some, Ok, if◌then◌else◌}
use Rattle.world.specs.declared.wakes.Event.{Event}
use Rattle.world.specs.declared.wakes.Event.TheVariants.{Quiet}
use Rattle.world.specs.LinkCalls.{frame_len, cut_event}
use Rattle.loop_link.specs.declared.datagrams.TheConstants.{HEAD}
use Rattle.system_calls.specs.Asking.{Does}
use Rattle.loop_link.specs.Datagrams.{event_said}
use Rattle.loop_link.specs.WireCalls.{WireCall, Received, is_from}

-- the datagrams of the peer among what was received, the last one first
abbrev pub heard_from : (peer : ℕ) → List WireCall → List (List ℕ)
heard_from peer [] = []
heard_from peer (Received (Ok datagram) ∷ calls) =
    if is_from peer datagram.sender then datagram.bytes ∷ heard_from peer calls else heard_from peer calls
heard_from peer (call ∷ calls) = heard_from peer calls

-- what a wait gives: an event, with the bytes of its frame at the front of a buffer of so much room
pub record Brought : Type 0 where
  pub event : Event
  pub room : ℕ
  pub buffer : List ℕ

-- the event of a datagram, its frame cut to the room
pub record SaysOf (datagram : List ℕ) (brought : Brought) : Type 0 where
  pub event : brought.event ≡ cut_event (event_said datagram) (length (drop HEAD datagram)) brought.room
  pub frame : take (frame_len brought.event) brought.buffer ≡ take (frame_len brought.event) (drop HEAD datagram)

-- A wait ends with the first datagram of the peer, and is quiet without one, where it is due to end.
abbrev pub Says : (due : Type 0) → (heard : List (List ℕ)) → Brought → Type 0
Says due [] brought = (brought.event ≡ Quiet) × due
Says due (datagram ∷ []) brought = SaysOf datagram brought
Says due (datagram ∷ earlier ∷ heard) brought = ⊥

-- calls in which these datagrams of the peer came, and no others
pub record HearsAll (peer : ℕ) (heard : List (List ℕ)) (old new : Option (List WireCall)) : Type 0 where
  pub made : List WireCall
  pub asked : Does made old new
  pub all : heard_from peer made ≡ heard

abbrev pub HearsNone : (peer : ℕ) → (old new : Option (List WireCall)) → Type 0
HearsNone peer old new = HearsAll peer [] old new

-- a wait was over after these calls
pub record Brings (peer : ℕ) (due : Type 0) (brought : Brought) (old new : Option (List WireCall)) : Type 0 where
  pub heard : List (List ℕ)
  pub came : HearsAll peer heard old new
  pub says : Says due heard brought

-- what a piece of a wait brings: what ends the wait, or nothing yet
abbrev pub BringsYet : (peer : ℕ) → (due : Type 0) → (heard : Option Event) → (room : ℕ) → (buffer : List ℕ)
    → (old new : Option (List WireCall)) → Type 0
BringsYet peer due None room buffer old new = HearsNone peer old new
BringsYet peer due (Some event) room buffer old new =
    Brings peer due (record { event = event; room = room; buffer = buffer }) old new
