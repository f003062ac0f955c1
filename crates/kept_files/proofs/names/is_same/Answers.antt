use Rattle.std.proofs.Common.{bytes_eq, ◌∙◌}
use Rattle.kept_files.proofs.NameTexts.{text_of_name}
use Rattle.kept_files.proofs.names.is_same.Goals as goal

pub returns : goal.returns
returns c = c.are_equal.ensures ∙ (λ i. bytes_eq ((c.as_bytes.ensures ∙ text_of_name c.args.a.now) i) ((c.as_bytes-2.ensures ∙ text_of_name c.args.b.now) i))
