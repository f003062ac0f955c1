use Rattle.std.proofs.Common.{◌≡◌, [], ◌∷◌, map, ◌∙◌, ap, arith}
use Rattle.std.proofs.lemmas.List.{map-append}
use Rattle.replay_text.specs.ScriptContent.{given_of}
use Rattle.made_script.specs.MadeTurns.{wave_turn, wave_given}
use Rattle.made_script.proofs.Numbers.{more_mapped}
use Rattle.made_script.proofs.turns.push_wave.Goals as goal

pub loop-index-preserved : goal.loop-index-preserved
loop-index-preserved c =
    ap (map given_of) c.in_ok-push.ensures.items
    ∙ map-append given_of c.loop-index.turns.items (c.in_ok-wave_turn.field-0 ∷ [])
    ∙ more_mapped (wave_turn c.args.wave) (map given_of c.args.turns.now.items) (map given_of c.loop-index.turns.items) (given_of c.in_ok-wave_turn.field-0)
    c.loop-index.index c.loop-index.auto.index c.loop-index.invariant c.in_ok-wave_turn.ensures

pub returns : goal.returns
unfolding wave_given
returns c =
    let last : c.loop-index.index ≡ 65 = omega arith in
    rw last at c.loop-index.invariant
