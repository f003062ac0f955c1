-- The turns that devices foretell are met one after another.
use Rattle.std.proofs.Common.{◌≡◌, ℕ, suc, ◌<◌, Bool, true, false, ◌||◌, List, [], ◌∷◌, ◌++◌, length, refl, ap, subst, ◌∙◌, arith}
use Rattle.std.specs.Prelude.{if◌then◌else◌}
use Rattle.world.specs.LinkCalls.{Given}
use Rattle.settings.specs.declared.interfaces.Managed.{Managed}
use Rattle.evidence_words.specs.TurnModel.Turns.{is_end, is_over}
use Rattle.evidence_words.specs.TurnModel.Lives.{Met}
use Rattle.evidence_words.specs.TurnModel.Foretold.{ran_turn, met_of, told_turns}
use Rattle.evidence_words.specs.TurnModel.HostInLife.{Running, running_turned, running_after}
use Rattle.evidence.specs.HeldAddresses.{mets_of, ForetoldAreMet}

-- where a list that may be cut off has an element, it isn't cut off there
goes_on : (over : Bool) (mets : List Met) (n : ℕ) → n < length (if over then [] else mets) → (if over then [] else mets) ≡ mets
goes_on true mets n h = absurd (omega arith)
goes_on false mets n h = refl

module _ (managed : List Managed) where
  abbrev told : Running → List Given → List Met
  told running turns = told_turns managed running.life running.world turns

  first_met : (running : Running) (given : Given) (coming : List Given) (n : ℕ) → n < length (told running (given ∷ coming))
      → told running (given ∷ coming)
      ≡ met_of given (ran_turn managed running.life running.world given) ∷ told (running_turned managed running given) coming
  first_met running given coming n h = goes_on (is_over running.life || is_end given.wake.event) _ n h

  met_in_turn : (running : Running) (earlier : List Given) (given : Given) (coming : List Given)
      → length earlier < length (told running (earlier ++ given ∷ coming))
      → told running (earlier ++ given ∷ coming)
      ≡ mets_of managed running (earlier ++ given ∷ []) ++ told (running_after managed (earlier ++ given ∷ []) running) coming
  met_in_turn running [] given coming h = first_met running given coming 0 h
  met_in_turn running (first ∷ earlier) given coming h =
      let e = first_met running first (earlier ++ given ∷ coming) (suc (length earlier)) h in
      let met : Met = met_of first (ran_turn managed running.life running.world first) in
      let more : suc (length earlier) < length (met ∷ told (running_turned managed running first) (earlier ++ given ∷ coming)) =
      subst (λ mets. suc (length earlier) < length mets) e h in
      e ∙ ap (λ mets. met ∷ mets) (met_in_turn (running_turned managed running first) earlier given coming (omega arith))

pub foretold : ForetoldAreMet
foretold managed running earlier given coming h = met_in_turn managed running earlier given coming h
