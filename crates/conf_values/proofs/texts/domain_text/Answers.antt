use Rattle.std.proofs.Common.{sym, ◌∙◌}
use Rattle.conf_values.proofs.TextLaws.{name_text}
use Rattle.conf_values.proofs.texts.domain_text.Goals as goal

pub owned_text-requires : goal.owned_text-requires
owned_text-requires c = name_text c.args.text.now (sym c.is_name.ensures ∙ c.if-is_name.true)
