use Rattle.std.proofs.Common.{ap, ◌∙◌}
use Rattle.conf_text.specs.AssociationSteps.{taken_on}
use Rattle.conf_text.proofs.ShareLaws.{share_step}
use Rattle.conf_text.proofs.sharing.shares_taken.Goals as goal

pub loop-line-preserved : goal.loop-line-preserved
loop-line-preserved c =
    share_step c.args.ifaces.now c.args.hint c.args.lines.now c.loop-line.line-index _ c.loop-line.taken.items c.take_any.new.taken.items c.loop-line-test.true
    c.loop-line.invariant
    (c.in_ok-take_any.ensures ∙ ap (taken_on c.loop-line.taken.items) c.share_of.ensures)
