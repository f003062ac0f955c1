use Rattle.std.proofs.Common.{◌≡◌, ◌-◌, ◌++◌, map}
use Rattle.script_model.specs.Lines.{numbers_from}
use Rattle.replay_text.specs.ScriptContent.{given_of}
use Rattle.made_script.specs.MadeTurns.{wave_turn}
use Rattle.made_script.proofs.turns.push_wave.Given as goal

abbrev pub invariant-loop-index : goal.invariant-loop-index
invariant-loop-index l =
    map given_of l.turns.items ≡ map given_of l.initial.turns.items ++ map (wave_turn l.wave) (numbers_from 1 (l.index - 1))
