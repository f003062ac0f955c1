use Rattle.std.proofs.Common.{◌∙◌}
use Rattle.row_reasons.specs.Judging.{IsAfter}
use Rattle.basis_turns.proofs.SinceTurns.{one_more}
use Rattle.row_reasons.proofs.finding.Judged.after.Goals as goal

pub turns-preserved : goal.turns-preserved
turns-preserved c = record {
  sites = c.in_ok-next.ensures.sites ∙ c.turns.invariant.sites;
  after = one_more (λ past judged. IsAfter past judged) c.args.turns.now c.turns.turn-index c.turn-item.result c.turns.judged c.in_ok-next.next
      c.turns-test.true c.turn-item.is c.turns.invariant.after (λ past count so_far. c.in_ok-next.ensures.after past so_far);
}
