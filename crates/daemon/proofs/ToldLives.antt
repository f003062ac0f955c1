-- What a life told hooks and the resolver is safe to read, and its variables are exact, wherever it ended.
use Rattle.std.proofs.Common.{List, ◌++◌, inl}
use Rattle.net_types.specs.declared.interface.IfSpec.{IfSpec}
use Rattle.world.specs.declared.wakes.Begin.{Begin}
use Rattle.settings.specs.Fitting.{AreManaged}
use Rattle.settings.specs.declared.interfaces.Managed.{Managed}
use Rattle.device_calls.specs.Calls.{Call}
use Rattle.device_calls.specs.Fronts.{Fronts}
use Rattle.device_calls.proofs.Begun.{asked_front}
use Rattle.turn_model.specs.LifeFronts.{FrontOfTurn}
use Rattle.turn_model.specs.Lives.{OpeningMet, IsOpening, Met, AreTurns, IsLast, life_after, turns_calls}
use Rattle.turn_model.specs.Opening.{opening_asks}
use Rattle.exact_texts.specs.ExactCalls.{TellExactly}
use Rattle.exact_texts.proofs.UnfinishedLives.{lives_tell_exactly}
use Rattle.daemon.specs.declared.serving.ServeEnd.{ServeEnd}
use Rattle.daemon.specs.Cuts.{CutAt, cut_turns, CutsAt}
use Rattle.daemon.proofs.Filings.{after_opening, cut_front, first_turns, last_front, later_turns}

module _ (managed : List Managed) (specs : List IfSpec) (fit : AreManaged managed) where
  -- in its opening
  pub begun_told : (begin : Begin) (calls : List Call) → Fronts (opening_asks managed specs begin) calls → TellExactly managed calls
  begun_told begin calls front = lives_tell_exactly managed specs calls fit (inl (record { begin = begin; front = front }))

  pub opening_told : (opening : OpeningMet) → IsOpening managed specs opening → TellExactly managed opening.calls
  opening_told opening opens =
      begun_told opening.begin opening.calls (asked_front (opening_asks managed specs opening.begin) opening.calls opening.life opens)

  module _ (opening : OpeningMet) (opens : IsOpening managed specs opening) (mets : List Met) where
    abbrev calls_then : List Call → List Call
    calls_then last = opening.calls ++ (turns_calls opening.life mets ++ last)

    turns_told : (last : List Call) → AreTurns managed opening.life mets → FrontOfTurn managed (life_after opening.life mets) last
        → TellExactly managed (calls_then last)
    turns_told last turns front =
        lives_tell_exactly managed specs (calls_then last) fit (after_opening managed specs opening mets last opens turns front)

    -- at its end
    pub ended_told : (last : List Call) → AreTurns managed opening.life mets → IsLast (life_after opening.life mets) last
        → TellExactly managed (calls_then last)
    ended_told last turns is = turns_told last turns (last_front managed (life_after opening.life mets) last is)

    -- where it was cut off later
    pub cut_told : (end : ServeEnd) (at : CutAt) (calls : List Call) → AreTurns managed opening.life (mets ++ cut_turns at)
        → CutsAt end managed (life_after opening.life mets) at calls → TellExactly managed (calls_then calls)
    cut_told end at calls turns cuts =
        turns_told calls (first_turns managed opening.life mets (cut_turns at) turns)
        (cut_front end managed (life_after opening.life mets) at calls cuts (later_turns managed opening.life mets (cut_turns at) turns))
