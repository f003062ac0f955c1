use Rattle.std.proofs.Common.{◌≡◌, ◌+◌, ◌-◌, List, ◌∷◌, ◌++◌, map, ◌∙◌, arith}
use Rattle.world.specs.LinkCalls.{Given}
use Rattle.replay_text.specs.ScriptContent.{given_of}
use Rattle.made_script.specs.declared.turns.TheConstants.{FIRST_TURN, OFFERS, ACKS}
use Rattle.made_script.specs.MadeTurns.{quiet_given, wave_given, round_given}
use Rattle.made_script.proofs.Numbers.{more_joined}
use Rattle.made_script.proofs.turns.made_turns.Goals as goal
use Rattle.made_script.proofs.turns.made_turns.Goals.{else-loop-round-test, then-loop-round-test+in_ok-push_round+else-round-rounds}

abbrev front : List Given
front = quiet_given FIRST_TURN ∷ (wave_given OFFERS ++ wave_given ACKS)

pub loop-round-preserved : goal.loop-round-preserved
loop-round-preserved c =
    c.in_ok-push_round.ensures
    ∙ more_joined round_given front (map given_of c.loop-round.turns.items)
    c.loop-round.round c.loop-round.auto.round c.loop-round.invariant

pub returns : goal.returns
returns c =
    elim c.loop-round-test.branch [
      | else-loop-round-test w ↦ (let none : ⊥ = omega arith in absurd none)
      | then-loop-round-test+in_ok-push_round+else-round-rounds w ↦
          let last : (c.loop-round.round + 1) - 1 ≡ c.args.rounds = omega arith in
          let more = more_joined round_given front (map given_of c.loop-round.turns.items) c.loop-round.round c.loop-round.auto.round c.loop-round.invariant in
          rw w.turns-is (w.in_ok-push_round.ensures ∙ rw last at more)
    ]
