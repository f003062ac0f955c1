use Rattle.std.proofs.Common.{◌≡◌, map, take}
use Rattle.conf_directives.specs.Contents.{ia_content}
use Rattle.conf_text.specs.AssociationSteps.{found_content, lines_in}
use Rattle.conf_text.proofs.associations.add_lines.Given as goal

abbrev pub invariant-loop-line : goal.invariant-loop-line
invariant-loop-line l = found_content l.found ≡ lines_in l.subject (found_content l.initial.found) (map ia_content (take l.line-index l.lines))
