-- A life: what its opening and its turns may be, its calls, and the lines of its transcript.
use Rattle.std.specs.Prelude.{ℕ, ◌≡◌, true, false, List, [], ◌∷◌, ◌++◌, flat_map, Some}
use Rattle.net_types.specs.declared.interface.IfSpec.{IfSpec}
use Rattle.world.specs.declared.wakes.Begin.{Begin}
use Rattle.world.specs.declared.wakes.Wake.{Wake}
use Rattle.world.specs.declared.rows.HostRow.{HostRow}
use Rattle.world.specs.declared.rows.HostRow.TheVariants.{Addr, Route}
use Rattle.world.specs.LinkCalls.{Waited}
use Rattle.client_model.specs.IfaceSettings.declared.interfaces.Managed.{Managed}
use Rattle.client_model.specs.Clients.{rows_of}
use Rattle.client_model.specs.ScriptModel.Lines as lines
use Rattle.client_model.specs.ScriptModel.Lines.{Line}
use Rattle.device_calls.specs.Calls.{Call, Link}
use Rattle.device_calls.specs.CallLines.{lines_of}
use Rattle.device_calls.specs.Programs.{Makes}
use Rattle.turn_model.specs.Turns.{Life, turn_asks, until, is_over, is_end}
use Rattle.turn_model.specs.Opening.{opening_asks}

-- an opening that was met: how the life began, the calls with their answers, and the life then
pub record OpeningMet : Type 0 where
  pub begin : Begin
  pub calls : List Call
  pub life : Life

-- a turn that was met: its wake with the bytes of the frame, the calls with their answers, and the life then
pub record Met : Type 0 where
  pub wake : Wake
  pub bytes : List ℕ
  pub calls : List Call
  pub life : Life

abbrev pub met_with : Wake → List ℕ → List Call → Life → Met
met_with wake bytes calls life = record { wake = wake; bytes = bytes; calls = calls; life = life }

-- it asked what an opening is to ask, and each question was answered
abbrev pub IsOpening : List Managed → List IfSpec → OpeningMet → Type 0
IsOpening managed specs opening = Makes (opening_asks managed specs opening.begin) opening.calls opening.life

-- A turn comes of a wake in a life that isn't over.
pub record IsTurn (managed : List Managed) (from : Life) (met : Met) : Type 0 where
  pub going : is_over from ≡ false
  pub more : is_end met.wake.event ≡ false
  pub makes : Makes (turn_asks managed from met.wake met.bytes) met.calls met.life

abbrev pub AreTurns : List Managed → Life → List Met → Type 0
AreTurns managed from [] = Unit {0}
AreTurns managed from (met ∷ mets) = IsTurn managed from met × AreTurns managed met.life mets

abbrev pub life_after : Life → List Met → Life
life_after from [] = from
life_after from (met ∷ mets) = life_after met.life mets

-- ---- the calls

-- a wait until the moment that the turn before said, what it gave, and the turn's calls
abbrev pub turn_calls : Life → Met → List Call
turn_calls from met = Link (Waited (until from) (Some (record { wake = met.wake; bytes = met.bytes }))) ∷ met.calls

abbrev pub turns_calls : Life → List Met → List Call
turns_calls from [] = []
turns_calls from (met ∷ mets) = turn_calls from met ++ turns_calls met.life mets

-- A life ends where the five seconds after a stop are over, or before that with a wait that gave no more.
abbrev pub IsLast : Life → List Call → Type 0
IsLast life [] = is_over life ≡ true
IsLast life (Link (Waited asked (Some given)) ∷ []) =
    (is_over life ≡ false) × (asked ≡ until life) × (is_end given.wake.event ≡ true)
IsLast life other = ⊥

-- ---- the lines

-- how the life began, its calls, and what the next wait is asked
abbrev pub opening_lines : OpeningMet → List Line
opening_lines opening =
    lines.Start opening.begin ∷ (flat_map lines_of opening.calls ++ lines.Until (until opening.life) ∷ [])

-- what came, the turn's calls, and what the next wait is asked
abbrev pub turn_lines : Met → List Line
turn_lines met =
    lines.Turn met.life.now met.wake.salt met.wake.event met.bytes
    ∷ (flat_map lines_of met.calls ++ lines.Until (until met.life) ∷ [])

-- the wanted addresses as the last turn left them
abbrev pub hold_lines : List HostRow → List Line
hold_lines [] = []
hold_lines (Addr iface net ∷ rows) = lines.Hold iface net ∷ hold_lines rows
hold_lines (Route iface dest way metric ∷ rows) = hold_lines rows

abbrev pub closing_lines : Life → List Line
closing_lines life = hold_lines (rows_of life.client) ++ lines.EndOfLife ∷ []

abbrev pub life_lines : OpeningMet → List Met → List Line
life_lines opening mets =
    opening_lines opening ++ (flat_map turn_lines mets ++ closing_lines (life_after opening.life mets))
