use Rattle.std.proofs.Common.{◌∙◌}
use Rattle.conf_text.specs.Contents.{configuration}
use Rattle.conf_text.proofs.ManagedLaws.{managed_more}
use Rattle.conf_text.proofs.managing.managed.Goals as goal

pub loop-spec-preserved : goal.loop-spec-preserved
loop-spec-preserved c =
    c.in_ok-add_managed.ensures
    ∙ managed_more
    (configuration c.args.conf.now) c.args.ifaces.now c.args.ifaces.now c.loop-spec.spec-index _ c.loop-spec.all.items c.in_ok-settings.settings
    c.loop-spec-test.true c.loop-spec.invariant c.in_ok-settings.ensures
