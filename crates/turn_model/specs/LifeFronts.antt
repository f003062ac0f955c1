-- The calls of a life up to a moment: whatever was answered, and wherever it was cut off.
use Rattle.std.specs.Prelude.{ℕ, ◌≡◌, ◌⊎◌, true, false, List, [], ◌∷◌, ◌++◌, Some, None}
use Rattle.net_types.specs.declared.interface.IfSpec.{IfSpec}
use Rattle.world.specs.declared.wakes.Begin.{Begin}
use Rattle.world.specs.declared.wakes.Wake.{Wake}
use Rattle.world.specs.LinkCalls.{Waited}
use Rattle.client_model.specs.IfaceSettings.declared.interfaces.Managed.{Managed}
use Rattle.device_calls.specs.Calls.{Call, Link}
use Rattle.device_calls.specs.Fronts.{Fronts}
use Rattle.turn_model.specs.Turns.{Life, turn_asks, until, is_over, is_end}
use Rattle.turn_model.specs.Opening.{opening_asks}
use Rattle.turn_model.specs.Lives.{OpeningMet, IsOpening, Met, AreTurns, life_after, turns_calls}

-- a wait that failed, after which nothing was asked
abbrev pub FailsWait : Life → Call → List Call → Type 0
FailsWait from call calls = (call ≡ Link (Waited (until from) None)) × (calls ≡ [])

-- a wait that gave a wake, and what its turn asks first; where nothing more comes, that is nothing
pub record BeginsTurn (managed : List Managed) (from : Life) (call : Call) (calls : List Call) : Type 0 where
  pub wake : Wake
  pub bytes : List ℕ
  pub waited : call ≡ Link (Waited (until from) (Some (record { wake = wake; bytes = bytes })))
  pub front : Fronts (turn_asks managed from wake bytes) calls
  pub more : is_end wake.event ≡ true → calls ≡ []

-- a turn up to a moment: none is begun in a life that is over
abbrev pub FrontOfTurn : List Managed → Life → List Call → Type 0
FrontOfTurn managed from [] = Unit {0}
FrontOfTurn managed from (call ∷ calls) =
    (is_over from ≡ false) × (FailsWait from call calls ⊎ BeginsTurn managed from call calls)

-- a life that was cut off in its opening
pub record InOpening (managed : List Managed) (specs : List IfSpec) (calls : List Call) : Type 0 where
  pub begin : Begin
  pub front : Fronts (opening_asks managed specs begin) calls

-- a life whose opening and some turns were whole, and what was asked of the next one
pub record AfterOpening (managed : List Managed) (specs : List IfSpec) (calls : List Call) : Type 0 where
  pub opening : OpeningMet
  pub mets : List Met
  pub last : List Call
  pub opens : IsOpening managed specs opening
  pub turns : AreTurns managed opening.life mets
  pub front : FrontOfTurn managed (life_after opening.life mets) last
  pub calls_are : calls ≡ opening.calls ++ (turns_calls opening.life mets ++ last)

abbrev pub FrontOfLife : List Managed → List IfSpec → List Call → Type 0
FrontOfLife managed specs calls = InOpening managed specs calls ⊎ AfterOpening managed specs calls
