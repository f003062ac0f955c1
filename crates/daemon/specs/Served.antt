-- A whole life, from its opening to its end.
use Rattle.std.specs.Prelude.{ℕ, ◌≡◌, ◌≤◌, ◌+◌, List, ◌++◌, length, Option, Some, IfSome, option_map, Ok}
use Rattle.std.specs.Option.{is_some}
use Rattle.net_types.specs.declared.interface.IfSpec.{IfSpec}
use Rattle.world.specs.declared.wakes.Begin.{Begin}
use Rattle.settings.specs.declared.interfaces.Managed.{Managed}
use Rattle.device_calls.specs.Calls.{Call}
use Rattle.device_calls.specs.Worlds.{Seen, world_of}
use Rattle.device_calls.specs.Telling.{Tells}
use Rattle.turn_model.specs.Lives.{OpeningMet, IsOpening, Met, AreTurns, IsLast, life_after, turns_calls, life_lines}
use Rattle.turn_model.specs.Foretold.{ForetoldLife, foretold_life, left_in}
use Rattle.exact_texts.specs.ExactCalls.{TellExactly}
use Rattle.life_devices.specs.Waits.{BeginsThere}
use Rattle.daemon.specs.Streams.{WritesLines}

-- how a life began, and what the devices tell then
pub record Begun (old : Seen) : Type 0 where
  pub begin : Begin
  pub seen : Seen
  pub begins : BeginsThere old seen (Ok begin)

-- a life's opening and turns are these
pub record IsLifeOf (opening : OpeningMet) (mets : List Met) (life : ForetoldLife) : Type 0 where
  pub opening_is : life.opening ≡ opening
  pub mets_are : life.mets ≡ mets

-- where all devices tell, the opening and the turns are those that they foretold
abbrev pub IsForetold : List Managed → List IfSpec → Seen → OpeningMet → List Met → Type 0
IsForetold managed specs old opening mets =
    IfSome (world_of old) (λ world. IsLifeOf opening mets (foretold_life managed specs world))

-- and what they tell then of the frames offered, the host and the store is what they foretold
abbrev pub LeavesForetold : List Managed → List IfSpec → Seen → Seen → Type 0
LeavesForetold managed specs old new =
    IfSome (world_of old) (λ world. option_map left_in (world_of new) ≡ Some (foretold_life managed specs world).left)

-- A life was lived to its end: it was begun once, its opening and turns asked what they are to ask, the devices that
-- tell their calls tell these and no other, and its lines were written. A hook's child runs then where the last turn
-- left one. It took no more wakes than were allowed. What these calls told hooks and the resolver is safe to read, and
-- variables are what their names say.
pub record Served (allowed : ℕ) (managed : List Managed) (specs : List IfSpec) (old new : Seen)
    (out_from out_to : Option (List ℕ)) : Type 0 where
  pub begun : Begun old
  pub opening : OpeningMet
  pub mets : List Met
  pub last : List Call
  pub begins : opening.begin ≡ begun.begin
  pub opens : IsOpening managed specs opening
  pub turns : AreTurns managed opening.life mets
  pub last_is : IsLast (life_after opening.life mets) last
  pub within : length mets + length last ≤ allowed
  pub tells : Tells begun.seen new (opening.calls ++ (turns_calls opening.life mets ++ last))
  pub written : WritesLines out_from out_to (life_lines opening mets)
  pub foretold : IsForetold managed specs old opening mets
  pub left : LeavesForetold managed specs old new
  pub told : TellExactly managed (opening.calls ++ (turns_calls opening.life mets ++ last))
  pub child : new.waiting.child ≡ is_some (life_after opening.life mets).hooks.child
