-- A stretch of turns, as the loop meets them.
use Rattle.std.specs.Prelude.{ℕ, ◌≡◌, ◌<◌, ◌≤◌, ◌+◌, List, ◌++◌, length, flat_map, Option, Some, IfSome, option_map}
use Rattle.net_types.specs.declared.interface.IfSpec.{IfSpec}
use Rattle.world.specs.declared.wakes.Begin.{Begin}
use Rattle.world.specs.declared.wakes.Wake.{Wake}
use Rattle.settings.specs.declared.interfaces.Managed.{Managed}
use Rattle.device_calls.specs.Calls.{Call}
use Rattle.device_calls.specs.Worlds.{Seen, World, world_of}
use Rattle.device_calls.specs.Telling.{Tells}
use Rattle.device_calls.specs.Does.{Did}
use Rattle.device_calls.specs.Printing.{Prints}
use Rattle.turn_model.specs.Turns.{Life, turn_asks}
use Rattle.turn_model.specs.Opening.{opening_asks}
use Rattle.turn_model.specs.Lives.{OpeningMet, Met, met_with, AreTurns, IsLast, life_after, turns_calls, opening_lines, turn_lines}
use Rattle.turn_model.specs.Foretold.{foretold_turns, told_after, left_in}
use Rattle.daemon.specs.declared.serving.ServeEnd.{ServeEnd}
use Rattle.daemon.specs.declared.serving.ServeEnd.TheVariants as ends
use Rattle.daemon.specs.Streams.{WritesLines}

abbrev pub opening_with : Begin → List Call → Life → OpeningMet
opening_with begin calls life = record { begin = begin; calls = calls; life = life }

-- a life was opened: the calls of its opening were made, and its lines were appended
pub record MakesOpening (managed : List Managed) (specs : List IfSpec) (begin : Begin) (to : Life) (old new : Seen)
    (text_old text_new : List ℕ) : Type 0 where
  pub calls : List Call
  pub did : Did (opening_asks managed specs begin) calls to old new
  pub lines : Prints text_old text_new (opening_lines (opening_with begin calls to))

-- a wake was handled: the calls of its turn were made, and its lines were appended
pub record MakesTurn (managed : List Managed) (from : Life) (wake : Wake) (bytes : List ℕ) (to : Life) (old new : Seen)
    (text_old text_new : List ℕ) : Type 0 where
  pub calls : List Call
  pub did : Did (turn_asks managed from wake bytes) calls to old new
  pub lines : Prints text_old text_new (turn_lines (met_with wake bytes calls to))

-- what the devices tell after all turns that they foretell
abbrev pub told_last : List Managed → Life → World → World
told_last managed life world = told_after managed life world world.link.told.coming

-- the turns met are the first of those that were foretold, and the rest is still to come
pub record AreFirst (managed : List Managed) (from : Life) (before : World) (mets : List Met) (to : Life)
    (new : Seen) : Type 0 where
  pub then_told : World
  pub tells : world_of new ≡ Some then_told
  pub turns : foretold_turns managed from before ≡ mets ++ foretold_turns managed to then_told
  pub ends : told_last managed from before ≡ told_last managed to then_told
  pub counted : length before.link.told.coming ≡ length mets + length then_told.link.told.coming

-- the turns met are all that were foretold
abbrev pub AreWhole : List Managed → Life → Seen → List Met → Type 0
AreWhole managed from old mets = IfSome (world_of old) (λ world. foretold_turns managed from world ≡ mets)

-- what the devices leave is what they foretold
abbrev pub LeavesTold : List Managed → Life → Seen → Seen → Type 0
LeavesTold managed from old new =
    IfSome (world_of old) (λ world. option_map left_in (world_of new) ≡ Some (left_in (told_last managed from world)))

-- a life goes on after these turns
pub record Goes (managed : List Managed) (from : Life) (old : Seen) (out_from : Option (List ℕ)) (to : Life)
    (new : Seen) (out_to : Option (List ℕ)) (mets : List Met) : Type 0 where
  pub turns : AreTurns managed from mets
  pub after : to ≡ life_after from mets
  pub written : WritesLines out_from out_to (flat_map turn_lines mets)
  pub tells : Tells old new (turns_calls from mets)
  pub foretold : IfSome (world_of old) (λ world. AreFirst managed from world mets to new)

-- a life is over after these turns, and after no more wakes than were allowed
pub record Ends (allowed : ℕ) (managed : List Managed) (from : Life) (old : Seen) (out_from : Option (List ℕ))
    (to : Life) (new : Seen) (out_to : Option (List ℕ)) : Type 0 where
  pub mets : List Met
  pub turns : AreTurns managed from mets
  pub after : to ≡ life_after from mets
  pub written : WritesLines out_from out_to (flat_map turn_lines mets)
  pub last : List Call
  pub last_is : IsLast to last
  pub within : length mets + length last ≤ allowed
  pub tells : Tells old new (turns_calls from mets ++ last)
  pub whole : AreWhole managed from old mets
  pub left : LeavesTold managed from old new

-- as many turns were handled as were allowed, since no fewer come
abbrev pub AreManyTurns : Seen → ℕ → Type 0
AreManyTurns old turns = IfSome (world_of old) (λ world. turns ≤ length world.link.told.coming)

-- why a device call cut a life off: only where the count of that device rose
abbrev pub HasServeCause : ServeEnd → ℕ → ℕ → ℕ → ℕ → Type 0
HasServeCause ends.End out out' link link' = ⊥
HasServeCause ends.TurnsOver out out' link link' = ⊥
HasServeCause ends.LinkFault out out' link link' = (out ≤ out') × (link < link')
HasServeCause ends.WriteFault out out' link link' = (out < out') × (link ≤ link')
HasServeCause ends.NoMemory out out' link link' = (out ≤ out') × (link ≤ link')

-- why a life was cut off: the same, or as many wakes as were allowed were handled
abbrev pub HasLifeCause : ServeEnd → ℕ → ℕ → ℕ → ℕ → Type 0
HasLifeCause ends.End out out' link link' = ⊥
HasLifeCause ends.TurnsOver out out' link link' = (out ≤ out') × (link ≤ link')
HasLifeCause ends.LinkFault out out' link link' = (out ≤ out') × (link < link')
HasLifeCause ends.WriteFault out out' link link' = (out < out') × (link ≤ link')
HasLifeCause ends.NoMemory out out' link link' = (out ≤ out') × (link ≤ link')

-- the causes of all ends; no fault is needed for a life to be over
abbrev pub HasEndCause : ServeEnd → ℕ → ℕ → ℕ → ℕ → Type 0
HasEndCause ends.End out out' link link' = (out ≤ out') × (link ≤ link')
HasEndCause end out out' link link' = HasLifeCause end out out' link link'
