use Rattle.std.proofs.Common.{List, sym, subst, ◌∙◌}
use Rattle.device_calls.specs.Fronts.{HasBegun}
use Rattle.turn_model.specs.KeptFiles.{KeptFile, keeping}
use Rattle.life_files.proofs.KeepingSteps.{keeping_nothing, kept_still}
use Rattle.life_devices.proofs.Begins.{on_err}
use Rattle.life_files.proofs.kept.keep_files.Goals as goal

pub returns-then-not-any_unknown-clause-does : goal.returns-then-not-any_unknown-clause-does
returns-then-not-any_unknown-clause-does g c =
    keeping_nothing c.args.core.now.ifaces c.args.touched c.args.files _ _ (sym c.is_nothing.ensures ∙ c.if-is_nothing.true)
    (sym c.any_unknown.ensures ∙ c.if-not-any_unknown.true) c.requires

pub returns-then-not-any_unknown-clause-kept : goal.returns-then-not-any_unknown-clause-kept
returns-then-not-any_unknown-clause-kept g c =
    kept_still c.args.core.now.ifaces c.args.touched c.args.files (sym c.is_nothing.ensures ∙ c.if-is_nothing.true) c.requires

pub returns-in_err-kept-clause-begun : goal.returns-in_err-kept-clause-begun
returns-in_err-kept-clause-begun g c =
    on_err c.from_residual.result
    (subst
    (λ (files : List KeptFile). HasBegun (keeping c.args.core.now.ifaces files) (g.W.Outside.seen c.args.outside.now)
    (g.W.Outside.seen c.keep_all.new.outside))
    c.files-2.view_is c.in_err-kept.ensures.begun)
