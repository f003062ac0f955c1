use Rattle.std.proofs.Common.{sym, ◌∙◌}
use Rattle.domain_names.proofs.Labels.{name_long, name_tested}
use Rattle.domain_names.proofs.text.is_name.Goals as goal

pub returns-then-text-gt-NAME_MAX : goal.returns-then-text-gt-NAME_MAX
returns-then-text-gt-NAME_MAX c = sym (name_long c.args.text.now c.if-text-gt-NAME_MAX.true)

pub returns : goal.returns
returns c = c.labels_fit.ensures ∙ name_tested c.args.text.now c.if-text-gt-NAME_MAX.false
