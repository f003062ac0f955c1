use Rattle.std.proofs.Common.{List, sym, ap, subst, ◌∙◌, length}
use Rattle.device_calls.specs.Does.{Does}
use Rattle.turn_model.specs.KeptFiles.{KeptFile, keeping}
use Rattle.life_files.specs.Keeping.{AreKept, AreKeptBut}
use Rattle.life_files.proofs.KeepingSteps.{stays_in_place}
use Rattle.device_calls.specs.Fronts.{HasBegun}
use Rattle.life_devices.proofs.Begins.{on_err}
use Rattle.life_files.proofs.keeping.keep_all.Goals as goal

pub keep_each-requires : goal.keep_each-requires
keep_each-requires g c = subst (AreKeptBut c.args.touched c.args.core.now.ifaces) (sym c.deref_mut.ensures.value) c.requires

pub returns-clause-does : goal.returns-clause-does
returns-clause-does g c =
    subst
    (λ (files : List KeptFile). Does (keeping c.args.core.now.ifaces c.args.files.items) files (g.W.Outside.seen c.args.outside.now)
    (g.W.Outside.seen c.keep_each.new.outside) c.args.text.now.items c.keep_each.new.text.items)
    (sym (stays_in_place c.args.files c.keep_each.new.files (c.in_ok-keep_each.ensures.count ∙ ap length c.deref_mut.ensures.value)))
    (subst
    (λ (files : List KeptFile). Does (keeping c.args.core.now.ifaces files) c.keep_each.new.files (g.W.Outside.seen c.args.outside.now)
    (g.W.Outside.seen c.keep_each.new.outside) c.args.text.now.items c.keep_each.new.text.items)
    c.deref_mut.ensures.value c.in_ok-keep_each.ensures.does)

pub returns-clause-kept : goal.returns-clause-kept
returns-clause-kept g c =
    subst (AreKept c.args.core.now.ifaces)
    (sym (stays_in_place c.args.files c.keep_each.new.files (c.in_ok-keep_each.ensures.count ∙ ap length c.deref_mut.ensures.value)))
    c.in_ok-keep_each.ensures.kept

pub returns-in_err-keep_each-clause-begun : goal.returns-in_err-keep_each-clause-begun
returns-in_err-keep_each-clause-begun g c =
    on_err c.from_residual.result
    (subst
    (λ (files : List KeptFile). HasBegun (keeping c.args.core.now.ifaces files) (g.W.Outside.seen c.args.outside.now)
    (g.W.Outside.seen c.keep_each.new.outside))
    c.deref_mut.ensures.value c.in_err-keep_each.ensures.begun)
