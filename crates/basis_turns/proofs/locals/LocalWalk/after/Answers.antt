use Rattle.audit_words.specs.Shown.{site_shown}
use Rattle.basis_turns.specs.LocalWalks.{Tells}
use Rattle.basis_turns.proofs.SinceTurns.{one_more}
use Rattle.basis_turns.proofs.locals.LocalWalk.after.Goals as goal

pub turns-init : goal.turns-init
turns-init c = c.first-walk.ensures c.args.addr

pub turns-preserved : goal.turns-preserved
turns-preserved c =
    one_more (λ past walk. Tells (site_shown c.args.site.now) c.args.addr past walk) c.args.turns.now c.turns.number c.index-turns-number.result
    c.turns.walk c.in_ok-next.next c.turns-test.true c.index-turns-number.is c.turns.invariant c.in_ok-next.ensures
