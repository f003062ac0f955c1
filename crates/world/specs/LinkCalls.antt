-- What a link that tells what it does is asked, gives and is offered.
use Rattle.std.specs.Prelude.{ℕ, Bool, true, false, ◌≡◌, ◌+◌, List, [], ◌∷◌, ◌++◌, length, take, min, Option, Some, None, Result, Ok, Err}
use Rattle.net_types.specs.declared.fault.Failed.{Failed}
use Rattle.world.specs.declared.faults.DeviceAnswer.{DeviceAnswer}
use Rattle.world.specs.declared.faults.DeviceAnswer.TheVariants as Answer
use Rattle.world.specs.declared.wakes.Begin.{Begin}
use Rattle.world.specs.declared.wakes.Event.{Event}
use Rattle.world.specs.declared.wakes.Event.TheVariants.{Frame, End}
use Rattle.world.specs.declared.wakes.Wake.{Wake}

-- a wake, with the bytes of its frame
pub record Given : Type 0 where
  pub wake : Wake
  pub bytes : List ℕ

-- a wait with the moment asked for and what was given, or a frame offered and whether it was taken
pub data LinkCall : Type 0 where
  Waited : (until : Option ℕ) → (given : Option Given) → LinkCall
  Offered : (iface : ℕ) → (frame : List ℕ) → (taken : Bool) → LinkCall

pub record LinkTold : Type 0 where
  -- how it begins
  pub begin : Begin
  -- what comes, in order; when it is used up nothing more comes
  pub coming : List Given
  -- how many waits and sends were answered before, those of earlier lives included
  pub waits : ℕ
  pub sends : ℕ
  -- the calls answered so far
  pub calls : List LinkCall

-- the length of an event's frame
abbrev pub frame_len : Event → ℕ
frame_len (Frame iface len) = len
frame_len event = 0

-- an event whose frame is cut to a buffer of so many bytes
abbrev pub cut_event : Event → ℕ → ℕ → Event
cut_event (Frame iface len) size room = Frame iface (min size room)
cut_event event size room = event

abbrev pub cut_wake : Given → ℕ → Wake
cut_wake given room =
    record { at = given.wake.at; salt = given.wake.salt; event = cut_event given.wake.event (length given.bytes) room }

abbrev pub waited : Option ℕ → Option Given → List Given → LinkTold → LinkTold
waited until given coming told =
    record told { coming = coming; waits = told.waits + 1; calls = told.calls ++ Waited until given ∷ [] }

abbrev pub Comes : Option ℕ → LinkTold → List Given → Option LinkTold → List ℕ → Wake → Type 0
Comes until told [] new buffer wake =
    (wake.event ≡ End) × (new ≡ Some (waited until (Some (record { wake = wake; bytes = [] })) [] told))
Comes until told (given ∷ coming) new buffer wake =
    (wake ≡ cut_wake given (length buffer))
    × (take (frame_len wake.event) buffer ≡ take (frame_len wake.event) given.bytes)
    ×
    (new
    ≡ Some
    (waited until
    (Some (record { wake = wake; bytes = take (frame_len wake.event) given.bytes })) coming told))

-- what a wait asked for, and gave
abbrev pub Waits : Option ℕ → Option LinkTold → Option LinkTold → List ℕ → Result Wake DeviceAnswer → Type 0
Waits until None new buffer result = new ≡ None
Waits until (Some told) new buffer (Ok wake) = Comes until told told.coming new buffer wake
Waits until (Some told) new buffer (Err Answer.Failed) = new ≡ Some (waited until None told.coming told)
Waits until (Some told) new buffer (Err Answer.NoMemory) = new ≡ Some told

abbrev pub offered : ℕ → List ℕ → Bool → LinkTold → LinkTold
offered iface frame taken told =
    record told { sends = told.sends + 1; calls = told.calls ++ Offered iface frame taken ∷ [] }

-- a frame that was offered, and whether it was taken
abbrev pub Offers : {T : Type 0} → ℕ → List ℕ → Option LinkTold → Option LinkTold → Result T DeviceAnswer → Type 0
Offers iface frame None new result = new ≡ None
Offers iface frame (Some told) new (Ok x) = new ≡ Some (offered iface frame true told)
Offers iface frame (Some told) new (Err Answer.Failed) = new ≡ Some (offered iface frame false told)
Offers iface frame (Some told) new (Err Answer.NoMemory) = new ≡ Some told

-- how a life begins; it is in no list of calls, since it takes no memory
abbrev pub Begins : Option LinkTold → Option LinkTold → Result Begin Failed → Type 0
Begins None new result = new ≡ None
Begins (Some told) new (Ok begin) = (begin ≡ told.begin) × (new ≡ Some told)
Begins (Some told) new (Err e) = new ≡ Some told

-- the number of the next wait and of the next send, from 1
abbrev pub wait_number : Option LinkTold → ℕ
wait_number None = 0
wait_number (Some told) = told.waits + 1

abbrev pub send_number : Option LinkTold → ℕ
send_number None = 0
send_number (Some told) = told.sends + 1

-- ---- the calls by themselves, where what comes isn't told

-- what a wait gave: the wake, with the bytes of its frame out of the buffer
abbrev pub given_in : (buffer : List ℕ) → Wake → Given
given_in buffer wake = record { wake = wake; bytes = take (frame_len wake.event) buffer }

-- a wait was added to the calls, unless it wanted memory
abbrev pub AddsWait : Option ℕ → (old new : Option (List LinkCall)) → (buffer : List ℕ) → Result Wake DeviceAnswer → Type 0
AddsWait until None new buffer result = new ≡ None
AddsWait until (Some calls) new buffer (Ok wake) = new ≡ Some (calls ++ Waited until (Some (given_in buffer wake)) ∷ [])
AddsWait until (Some calls) new buffer (Err Answer.Failed) = new ≡ Some (calls ++ Waited until None ∷ [])
AddsWait until (Some calls) new buffer (Err Answer.NoMemory) = new ≡ Some calls

-- and so was a frame that was offered
abbrev pub AddsOffer : {T : Type 0} → ℕ → List ℕ → (old new : Option (List LinkCall)) → Result T DeviceAnswer → Type 0
AddsOffer iface frame None new result = new ≡ None
AddsOffer iface frame (Some calls) new (Ok x) = new ≡ Some (calls ++ Offered iface frame true ∷ [])
AddsOffer iface frame (Some calls) new (Err Answer.Failed) = new ≡ Some (calls ++ Offered iface frame false ∷ [])
AddsOffer iface frame (Some calls) new (Err Answer.NoMemory) = new ≡ Some calls
