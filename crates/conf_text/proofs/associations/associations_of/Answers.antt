use Rattle.std.proofs.Common.{List, map, refl, ap, ◌∙◌}
use Rattle.conf_directives.specs.declared.values.IaLine.{IaLine}
use Rattle.conf_directives.specs.Contents.{ia_content}
use Rattle.conf_text.specs.AssociationSteps.{FoundContent, found_content, lines_in}
use Rattle.conf_text.proofs.FoundLaws.{all_found}
use Rattle.conf_text.proofs.associations.associations_of.Goals as goal

pub returns : goal.returns
returns c =
    let none : FoundContent = record { ias = c.new.result.items; shares = c.new-2.result.items } in
    all_found c.args.subject.now none (found_content c.add_lines.new.found) (found_content c.add_lines-2.new.found)
    (rw (c.new.ensures.items, c.new-2.ensures.items) refl)
    (c.in_ok-add_lines.ensures ∙ ap (λ (lines : List IaLine). lines_in c.args.subject.now none (map ia_content lines)) c.deref.ensures.value)
    (c.in_ok-add_lines-2.ensures
    ∙ ap (λ (lines : List IaLine). lines_in c.args.subject.now (found_content c.add_lines.new.found) (map ia_content lines)) c.deref-2.ensures.value)
