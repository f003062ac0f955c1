use Rattle.std.proofs.Common.{sym, ◌∙◌}
use Rattle.std.proofs.lemmas.Bool.{and_parts}
use Rattle.conf_values.proofs.TextLaws.{printable_text}
use Rattle.conf_values.proofs.texts.printed_text.Goals as goal

pub owned_text-requires : goal.owned_text-requires
owned_text-requires c = printable_text c.args.text.now (and_parts _ _ (sym c.is_printed.ensures ∙ c.if-is_printed.true)).1
