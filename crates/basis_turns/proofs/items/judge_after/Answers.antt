use Rattle.audit_words.specs.Shown.{site_shown}
use Rattle.item_judge.specs.Judging.{Tells}
use Rattle.basis_turns.proofs.SinceTurns.{one_more}
use Rattle.basis_turns.proofs.items.judge_after.Goals as goal

pub turns-preserved : goal.turns-preserved
turns-preserved c =
    one_more (λ past judge. Tells judge (site_shown c.args.site.now) past) c.args.turns.now c.turns.turn-index c.turn-item.result c.turns.judge
    c.in_ok-next.next c.turns-test.true c.turn-item.is c.turns.invariant (λ past count tells. c.in_ok-next.ensures past tells)
