-- What beginning and waiting do to what the devices tell.
use Rattle.std.specs.Prelude.{ℕ, ◌≡◌, List, Option, Result}
use Rattle.std.specs.Option.{is_some}
use Rattle.net_types.specs.declared.fault.Failed.{Failed}
use Rattle.world.specs.declared.faults.DeviceAnswer.{DeviceAnswer}
use Rattle.world.specs.declared.wakes.Begin.{Begin}
use Rattle.world.specs.declared.wakes.Wake.{Wake}
use Rattle.world.specs.LinkCalls.{Begins, Waits, AddsWait}
use Rattle.world.specs.Streams.{count_after}
use Rattle.hook_child.specs.Supervision.{Supervision}
use Rattle.device_calls.specs.Worlds.{Seen, Waiting}

-- all stays but what the link tells, and how many of its beginnings and waits there were and failed
pub record OnlyLink (old new : Seen) : Type 0 where
  pub failing : new.link.failing ≡ old.link.failing
  pub waits : new.waiting.failing ≡ old.waiting.failing
  pub host : new.host ≡ old.host
  pub store : new.store ≡ old.store
  pub hooks : new.hooks ≡ old.hooks
  pub child : new.waiting.child ≡ old.waiting.child
  pub sends : new.link.faults ≡ old.link.faults

-- all stays that the link counts of begins and waits; a hook's child may have come or gone
pub record OnlyChild (old new : Waiting) : Type 0 where
  pub begins : new.begins ≡ old.begins
  pub faults : new.faults ≡ old.faults
  pub failing : new.failing ≡ old.failing

-- a hook's child runs exactly where the supervisor has one
abbrev pub KnowsChild : Supervision → Seen → Type 0
KnowsChild hooks seen = seen.waiting.child ≡ is_some hooks.child

-- the life was to begin once more
pub record BeginsThere (old new : Seen) (result : Result Begin Failed) : Type 0 where
  pub told : Begins old.link.told new.link.told result
  pub calls : new.link_calls ≡ old.link_calls
  pub counted : new.waiting.begins ≡ count_after old.waiting.begins
  pub only : OnlyLink old new

pub record WaitsThere (until : Option ℕ) (old new : Seen) (buffer : List ℕ)
    (result : Result Wake DeviceAnswer) : Type 0 where
  pub told : Waits until old.link.told new.link.told buffer result
  pub calls : AddsWait until old.link_calls new.link_calls buffer result
  pub begins : new.waiting.begins ≡ old.waiting.begins
  pub only : OnlyLink old new
