use Rattle.conf_text.specs.AssociationSteps.{found_content}
use Rattle.conf_text.proofs.FoundLaws.{lines_step}
use Rattle.conf_text.proofs.associations.add_lines.Goals as goal

pub loop-line-preserved : goal.loop-line-preserved
loop-line-preserved c =
    lines_step c.args.subject.now (found_content c.args.found.now) (found_content c.loop-line.found)
    (found_content c.add_line.new.found) c.args.lines.now c.loop-line.line-index _ c.line-item.result c.loop-line-test.true c.line-item.is
    c.loop-line.invariant
    c.in_ok-add_line.ensures
