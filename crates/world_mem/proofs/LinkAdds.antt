-- A wait that was told with what came is among the calls that are told by themselves.
use Rattle.std.proofs.Common.{ℕ, ◌≡◌, List, [], ◌∷◌, ◌++◌, take, Option, Some, Result, Ok, Err, sym, ap, ◌∙◌}
use Rattle.std.specs.Prelude.{option_map}
use Rattle.world.specs.declared.faults.DeviceAnswer.{DeviceAnswer}
use Rattle.world.specs.declared.faults.DeviceAnswer.TheVariants as Answer
use Rattle.world.specs.declared.wakes.Event.{Event}
use Rattle.world.specs.declared.wakes.Wake.{Wake}
use Rattle.world.specs.LinkCalls.{LinkTold, LinkCall, Given, Waited, frame_len, Comes, Waits, AddsWait}

-- the calls of a link that tells
abbrev calls_in : Option LinkTold → Option (List LinkCall)
calls_in link = option_map (λ (t : LinkTold). t.calls) link

abbrev with_bytes : Option ℕ → Wake → List LinkCall → List ℕ → Option (List LinkCall)
with_bytes until wake calls bytes = Some (calls ++ Waited until (Some (record { wake = wake; bytes = bytes })) ∷ [])

come_added : (until : Option ℕ) (told new : LinkTold) (buffer : List ℕ) (wake : Wake) (coming : List Given)
    → Comes until told coming (Some new) buffer wake → AddsWait until (Some told.calls) (Some new.calls) buffer (Ok wake)
come_added until told new buffer wake [] comes =
    ap calls_in comes.1
    ∙ ap (with_bytes until wake told.calls) (sym (ap (λ (e : Event). take (frame_len e) buffer) comes.0))
come_added until told new buffer wake (given ∷ coming) comes =
    ap calls_in comes.2 ∙ ap (with_bytes until wake told.calls) (sym comes.1)

pub wait_added : (until : Option ℕ) (told new : LinkTold) (buffer : List ℕ) (result : Result Wake DeviceAnswer)
    → Waits until (Some told) (Some new) buffer result → AddsWait until (Some told.calls) (Some new.calls) buffer result
wait_added until told new buffer (Ok wake) waits = come_added until told new buffer wake told.coming waits
wait_added until told new buffer (Err Answer.Failed) waits = ap calls_in waits
wait_added until told new buffer (Err Answer.NoMemory) waits = ap calls_in waits
