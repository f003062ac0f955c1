-- The calls of a life's turns, apart at one of them.
use Rattle.std.proofs.Common.{◌≡◌, List, [], ◌∷◌, ◌++◌, refl, sym, ap, ◌∙◌, append_assoc}
use Rattle.settings.specs.declared.interfaces.Managed.{Managed}
use Rattle.device_calls.specs.Calls.{Call}
use Rattle.turn_model.specs.Turns.{Life}
use Rattle.turn_model.specs.Lives.{Met, AreTurns, life_after, turn_calls, turns_calls}

pub calls_apart : (from : Life) (earlier later : List Met)
    → turns_calls from (earlier ++ later) ≡ turns_calls from earlier ++ turns_calls (life_after from earlier) later
calls_apart from [] later = refl
calls_apart from (met ∷ earlier) later =
    ap (λ cs. turn_calls from met ++ cs) (calls_apart met.life earlier later)
    ∙ sym (append_assoc (turn_calls from met) (turns_calls met.life earlier) (turns_calls (life_after met.life earlier) later))

pub turns_first : (managed : List Managed) (from : Life) (earlier later : List Met) → AreTurns managed from (earlier ++ later) → AreTurns managed from earlier
turns_first managed from [] later turns = tt
turns_first managed from (met ∷ earlier) later turns = (turns.0, turns_first managed met.life earlier later turns.1)

pub turns_later : (managed : List Managed) (from : Life) (earlier later : List Met) → AreTurns managed from (earlier ++ later)
    → AreTurns managed (life_after from earlier) later
turns_later managed from [] later turns = turns
turns_later managed from (met ∷ earlier) later turns = turns_later managed met.life earlier later turns.1

pub at_turn_calls : (from : Life) (mets earlier : List Met) (met : Met) (later : List Met) (end : List Call) → mets ≡ earlier ++ met ∷ later
    → turns_calls from mets ++ end ≡ turns_calls from earlier ++ (turn_calls (life_after from earlier) met ++ (turns_calls met.life later ++ end))
at_turn_calls from mets earlier met later end split =
    let own : List Call = turn_calls (life_after from earlier) met in
    let rest : List Call = turns_calls met.life later in
    ap (λ (ms : List Met). turns_calls from ms ++ end) split
    ∙ ap (λ (cs : List Call). cs ++ end) (calls_apart from earlier (met ∷ later))
    ∙ append_assoc (turns_calls from earlier) (own ++ rest) end
    ∙ ap (λ (cs : List Call). turns_calls from earlier ++ cs) (append_assoc own rest end)
