-- What stands written where a life was cut off, and what was asked then.
use Rattle.std.specs.Prelude.{ℕ, ◌≡◌, ◌≤◌, ◌+◌, ◌⊎◌, false, List, [], ◌∷◌, ◌++◌, length, flat_map, Option, None, Err}
use Rattle.net_types.specs.declared.interface.IfSpec.{IfSpec}
use Rattle.net_types.specs.declared.fault.Failed.{Failed}
use Rattle.world.specs.LinkCalls.{Waited}
use Rattle.settings.specs.declared.interfaces.Managed.{Managed}
use Rattle.script_model.specs.Lines.{Line}
use Rattle.device_calls.specs.Calls.{Call, Link}
use Rattle.device_calls.specs.Worlds.{Seen}
use Rattle.device_calls.specs.Telling.{Tells}
use Rattle.device_calls.specs.Fronts.{HasBegun}
use Rattle.turn_model.specs.Turns.{Life, until, is_over}
use Rattle.turn_model.specs.Opening.{opening_asks}
use Rattle.turn_model.specs.Lives.{OpeningMet, IsOpening, Met, AreTurns, IsLast, life_after, turn_calls, turns_calls, opening_lines, turn_lines, closing_lines}
use Rattle.turn_model.specs.LifeFronts.{FrontOfTurn}
use Rattle.exact_texts.specs.ExactCalls.{TellExactly}
use Rattle.daemon.specs.declared.serving.ServeEnd.{ServeEnd}
use Rattle.daemon.specs.declared.serving.ServeEnd.TheVariants as ends
use Rattle.daemon.specs.Streams.{WritesFront}
use Rattle.daemon.specs.Serving.{AreWhole}
use Rattle.daemon.specs.Served.{Begun, IsForetold}
use Rattle.life_devices.specs.Waits.{BeginsThere}

-- what was being written, and the turns that were still to come, where these are foretold
pub data CutAt : Type 0 where
  -- nothing
  Between : (rest : List Met) → CutAt
  -- the lines of a turn
  InTurn : (met : Met) → (rest : List Met) → CutAt
  -- the lines after the last turn
  AtEnd : CutAt

abbrev pub cut_lines : Life → CutAt → List Line
cut_lines life (Between rest) = []
cut_lines life (InTurn met rest) = turn_lines met
cut_lines life AtEnd = closing_lines life

-- the turn whose lines were being written
abbrev pub cut_turns : CutAt → List Met
cut_turns (Between rest) = []
cut_turns (InTurn met rest) = met ∷ []
cut_turns AtEnd = []

-- the turns whose lines don't stand written whole
abbrev pub turns_left : CutAt → List Met
turns_left (Between rest) = rest
turns_left (InTurn met rest) = met ∷ rest
turns_left AtEnd = []

-- What was asked after the turns whose lines stand written whole, and where the life was cut off: between two turns,
-- since as many were handled as were allowed, or the next wait failed, or memory was wanted in the next turn, of which
-- a front was asked; in the lines of a turn, or in those after the last one, since writing failed or memory was wanted.
abbrev pub CutsAt : ServeEnd → List Managed → Life → CutAt → List Call → Type 0
CutsAt ends.End managed life at calls = ⊥
CutsAt ends.TurnsOver managed life (Between rest) calls = (calls ≡ []) × (is_over life ≡ false)
CutsAt ends.TurnsOver managed life other calls = ⊥
CutsAt ends.LinkFault managed life (Between rest) calls =
    (calls ≡ Link (Waited (until life) None) ∷ []) × (is_over life ≡ false)
CutsAt ends.LinkFault managed life other calls = ⊥
CutsAt ends.WriteFault managed life (Between rest) calls = ⊥
CutsAt ends.WriteFault managed life (InTurn met rest) calls = calls ≡ turn_calls life met
CutsAt ends.WriteFault managed life AtEnd calls = IsLast life calls
CutsAt ends.NoMemory managed life (Between rest) calls = FrontOfTurn managed life calls × (is_over life ≡ false)
CutsAt ends.NoMemory managed life (InTurn met rest) calls = calls ≡ turn_calls life met
CutsAt ends.NoMemory managed life AtEnd calls = IsLast life calls

-- the wakes asked for after the turns whose lines stand written whole: that of a turn that was begun, or a wait that
-- brought none
abbrev pub wakes_asked : CutAt → List Call → ℕ
wakes_asked (Between rest) [] = 0
wakes_asked (Between rest) (call ∷ calls) = 1
wakes_asked (InTurn met rest) calls = 1
wakes_asked AtEnd calls = length calls

-- where turns are over, as many were handled as were allowed
abbrev pub HandledAll : ServeEnd → (handled allowed : ℕ) → Type 0
HandledAll ends.TurnsOver handled allowed = handled ≡ allowed
HandledAll end handled allowed = Unit {0}

-- turns were handled and their lines written whole, and then the life was cut off
pub record BreaksOff (end : ServeEnd) (allowed : ℕ) (managed : List Managed) (from : Life) (old new : Seen)
    (out_from out_to : Option (List ℕ)) : Type 0 where
  pub mets : List Met
  pub at : CutAt
  pub calls : List Call
  pub cuts : CutsAt end managed (life_after from mets) at calls
  pub turns : AreTurns managed from (mets ++ cut_turns at)
  pub written : WritesFront out_from out_to (flat_map turn_lines mets) (cut_lines (life_after from mets) at)
  pub tells : Tells old new (turns_calls from mets ++ calls)
  pub whole : AreWhole managed from old (mets ++ turns_left at)
  pub within : length mets + wakes_asked at calls ≤ allowed
  pub all : HandledAll end (length mets) allowed

-- a life was cut off in the lines of its opening; what it told hooks and the resolver is safe to read, and variables
-- are what their names say
pub record CutOpening (end : ServeEnd) (managed : List Managed) (specs : List IfSpec) (old new : Seen)
    (out_from out_to : Option (List ℕ)) : Type 0 where
  pub begun : Begun old
  pub opening : OpeningMet
  pub rest : List Met
  pub begins : opening.begin ≡ begun.begin
  pub opens : IsOpening managed specs opening
  pub written : WritesFront out_from out_to [] (opening_lines opening)
  pub tells : Tells begun.seen new opening.calls
  pub foretold : IsForetold managed specs old opening rest
  pub told : TellExactly managed opening.calls

-- a life was cut off after its opening and some turns, whose lines stand written whole; so is what it told
pub record CutLife (end : ServeEnd) (allowed : ℕ) (managed : List Managed) (specs : List IfSpec) (old new : Seen)
    (out_from out_to : Option (List ℕ)) : Type 0 where
  pub begun : Begun old
  pub opening : OpeningMet
  pub mets : List Met
  pub at : CutAt
  pub calls : List Call
  pub begins : opening.begin ≡ begun.begin
  pub opens : IsOpening managed specs opening
  pub cuts : CutsAt end managed (life_after opening.life mets) at calls
  pub turns : AreTurns managed opening.life (mets ++ cut_turns at)
  pub written : WritesFront out_from out_to (opening_lines opening ++ flat_map turn_lines mets)
      (cut_lines (life_after opening.life mets) at)
  pub tells : Tells begun.seen new (opening.calls ++ (turns_calls opening.life mets ++ calls))
  pub foretold : IsForetold managed specs old opening (mets ++ turns_left at)
  pub within : length mets + wakes_asked at calls ≤ allowed
  pub all : HandledAll end (length mets) allowed
  pub told : TellExactly managed (opening.calls ++ (turns_calls opening.life mets ++ calls))

-- a wait that failed, or wanted memory and changed nothing that is told
abbrev pub WaitFails : ServeEnd → (until : Option ℕ) → Seen → Seen → Type 0
WaitFails ends.LinkFault until old new = Tells old new (Link (Waited until None) ∷ [])
WaitFails ends.NoMemory until old new = Tells old new []
WaitFails other until old new = ⊥

-- a life that could not begin, which was asked once; no other call was made
abbrev pub FailsToBegin : Seen → Seen → Type 0
FailsToBegin old new = (failed : Failed) × BeginsThere old new (Err failed)

abbrev pub BeginFails : ServeEnd → Seen → Seen → Type 0
BeginFails ends.LinkFault old new = FailsToBegin old new
BeginFails other old new = ⊥

-- a life that was begun once, and a front of what its opening asks; so is what was told then
pub record BeginsOpening (managed : List Managed) (specs : List IfSpec) (old new : Seen) : Type 0 where
  pub begun : Begun old
  pub opens : HasBegun (opening_asks managed specs begun.begin) begun.seen new
  pub told : TellExactly managed opens.calls

-- What stands written, and what was asked, where so many turns were allowed. Where beginning failed, or memory was
-- wanted before the opening's lines were written, nothing was written.
abbrev pub Leaves : ServeEnd → (allowed : ℕ) → List Managed → List IfSpec → Seen → Seen → Option (List ℕ)
    → Option (List ℕ) → Type 0
Leaves ends.End allowed managed specs old new out_from out_to = Unit {0}
Leaves ends.TurnsOver allowed managed specs old new out_from out_to =
    CutLife ends.TurnsOver allowed managed specs old new out_from out_to
Leaves ends.LinkFault allowed managed specs old new out_from out_to =
    ((out_to ≡ out_from) × FailsToBegin old new) ⊎ CutLife ends.LinkFault allowed managed specs old new out_from out_to
Leaves ends.WriteFault allowed managed specs old new out_from out_to =
    CutOpening ends.WriteFault managed specs old new out_from out_to
    ⊎ CutLife ends.WriteFault allowed managed specs old new out_from out_to
Leaves ends.NoMemory allowed managed specs old new out_from out_to =
    ((out_to ≡ out_from) × BeginsOpening managed specs old new)
    ⊎
    (CutOpening ends.NoMemory managed specs old new out_from out_to
    ⊎ CutLife ends.NoMemory allowed managed specs old new out_from out_to)
