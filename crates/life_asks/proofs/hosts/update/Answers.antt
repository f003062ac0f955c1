use Rattle.std.proofs.Common.{◌∙◌, Some, refl}
use Rattle.life_asks.proofs.Parts.{changes_fit}
use Rattle.life_devices.proofs.Successes.{if_ok}
use Rattle.life_asks.proofs.HostSteps.{updated}
use Rattle.turn_model.specs.Turns.{changing}
use Rattle.host_model.specs.HostTurn.{changes}
use Rattle.device_calls.proofs.Begun.{begun_none}
use Rattle.life_devices.proofs.Begins.{on_err, err_so}
use Rattle.life_asks.proofs.BegunParts.{update_begun}
use Rattle.life_asks.proofs.hosts.update.Goals as goal

pub make_changes-requires : goal.make_changes-requires
make_changes-requires g c = changes_fit c.args.diff.now _ (c.deref.ensures.value ∙ c.in_ok-changes.ensures) c.requires

pub returns-clause-does : goal.returns-clause-does
returns-clause-does g c = if_ok c.make_changes.result
    (λ table does. updated c.args.diff.now _ table _ _ _ _ (c.deref.ensures.value ∙ c.in_ok-changes.ensures) does)
    c.make_changes.ensures.does

pub returns-in_err-changes-clause-begun : goal.returns-in_err-changes-clause-begun
returns-in_err-changes-clause-begun g c =
    on_err c.from_residual.result (λ known wanted in_order wanted_in_order leads. begun_none (changing (changes known wanted) (Some known)) _ _ refl)

pub returns-clause-begun : goal.returns-clause-begun
returns-clause-begun g c =
    err_so c.make_changes.result
    (λ begins. update_begun c.args.diff.now _ _ _ (c.deref.ensures.value ∙ c.in_ok-changes.ensures) begins)
    c.make_changes.ensures.begun
