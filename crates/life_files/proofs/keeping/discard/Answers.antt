use Rattle.life_files.proofs.Bringing.{unremoved, removed_then}
use Rattle.life_devices.proofs.Successes.{if_ok}
use Rattle.life_devices.proofs.Begins.{on_err, err_so}
use Rattle.life_files.proofs.BegunFiles.{removed_begun, removed_later}
use Rattle.life_files.proofs.keeping.discard.Goals as goal

pub returns-then-not-removed-clause-does : goal.returns-then-not-removed-clause-does
returns-then-not-removed-clause-does g c = unremoved c.args.name.now c.in_ok-removed.removed c.if-not-removed.true c.in_ok-removed.ensures.does

pub returns-clause-does : goal.returns-clause-does
returns-clause-does g c = if_ok c.settle.result
    (λ done did. removed_then c.args.name.now c.in_ok-removed.removed done c.if-not-removed.false c.in_ok-removed.ensures.does did)
    c.settle.ensures.does

pub returns-in_err-removed-clause-begun : goal.returns-in_err-removed-clause-begun
returns-in_err-removed-clause-begun g c = on_err c.from_residual.result (removed_begun c.args.name.now c.in_err-removed.ensures.begun)

pub returns-clause-begun : goal.returns-clause-begun
returns-clause-begun g c =
    err_so c.settle.result
    (λ begun. removed_later c.args.name.now c.in_ok-removed.removed c.if-not-removed.false c.in_ok-removed.ensures.does begun)
    c.settle.ensures.begun
