use Rattle.std.proofs.Common.{◌≡◌, ◌-◌, ◌∷◌, ◌++◌, map, flat_map}
use Rattle.script_model.specs.Lines.{numbers_from}
use Rattle.replay_text.specs.ScriptContent.{given_of}
use Rattle.made_script.specs.declared.turns.TheConstants.{FIRST_TURN, OFFERS, ACKS}
use Rattle.made_script.specs.MadeTurns.{quiet_given, wave_given, round_given}
use Rattle.made_script.proofs.turns.made_turns.Given as goal

abbrev pub invariant-loop-round : goal.invariant-loop-round
invariant-loop-round l =
    map given_of l.turns.items
    ≡ (quiet_given FIRST_TURN ∷ (wave_given OFFERS ++ wave_given ACKS)) ++ flat_map round_given (numbers_from 1 (l.round - 1))
