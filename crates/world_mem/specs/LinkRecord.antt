-- What a link in memory does, and what its record of calls tells.
use Rattle.std.specs.Prelude.{ℕ, Bool, true, false, not, ◌≡◌, List, [], ◌∷◌, take, drop, map, fold, Option, Some, None}
use Rattle.world.specs.declared.wakes.Begin.{Begin}
use Rattle.world.specs.declared.wakes.Event.TheVariants.{End}
use Rattle.world.specs.LinkCalls.{Given, LinkCall, Waited, Offered, LinkTold, frame_len, cut_wake, waited, offered}
use Rattle.world_mem.specs.declared.links.MemWake.{MemWake}
use Rattle.world_mem.specs.declared.links.LinkEntry.{LinkEntry}
use Rattle.world_mem.specs.declared.links.LinkEntry.TheVariants.{Wait, FailedWait, Send}

pub record LinkState : Type 0 where
  -- how it begins, what comes and the calls so far
  pub told : LinkTold
  -- how often a life was to begin
  pub begins : ℕ
  -- the numbers of the waits and of the sends that fail, from 1
  pub failing_waits : List ℕ
  pub failing_sends : List ℕ

abbrev pub given_of : MemWake → Given
given_of coming = record { wake = coming.wake; bytes = coming.bytes.items }

-- what a wait gives of a wake to a buffer with so much room
abbrev pub cut_given : Given → ℕ → Given
cut_given given room =
    record { wake = cut_wake given room; bytes = take (frame_len (cut_wake given room).event) given.bytes }

-- what a wait gives when nothing comes any more
abbrev pub nothing_more : Given
nothing_more = record { wake = record { at = 0; salt = 0; event = End }; bytes = [] }

abbrev pub wait_step : Option ℕ → ℕ → List Given → LinkTold → LinkTold
wait_step until room [] told = waited until (Some nothing_more) [] told
wait_step until room (given ∷ coming) told = waited until (Some (cut_given given room)) coming told

-- what is told after one more call
abbrev pub link_step : LinkTold → LinkEntry → LinkTold
link_step told (Wait until room) = wait_step until room told.coming told
link_step told (FailedWait until) = waited until None told.coming told
link_step told (Send iface frame taken) = offered iface frame.items taken told

-- what is told of a link that begins so after the calls of a record
abbrev pub told_of : LinkTold → List LinkEntry → LinkTold
told_of start entries = fold link_step start entries

-- what is told before the first call, when earlier lives made so many sends
abbrev pub link_start : Begin → List MemWake → ℕ → LinkTold
link_start begin wakes sent = record { begin = begin; coming = map given_of wakes; waits = 0; sends = sent; calls = [] }

abbrev pub wait_failed : LinkCall → Bool
wait_failed (Waited until (Some given)) = false
wait_failed (Waited until None) = true
wait_failed (Offered iface frame taken) = false

abbrev pub send_failed : LinkCall → Bool
send_failed (Waited until given) = false
send_failed (Offered iface frame taken) = not taken

-- what the fields hold is what is told
pub record HoldsWakes (told : LinkTold) (begin : Begin) (wakes : List MemWake) (next waits sends : ℕ) : Type 0 where
  pub begins : told.begin ≡ begin
  pub comes : told.coming ≡ map given_of (drop next wakes)
  pub waited_so : told.waits ≡ waits
  pub sent_so : told.sends ≡ sends
