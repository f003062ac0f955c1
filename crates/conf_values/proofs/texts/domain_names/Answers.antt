use Rattle.std.proofs.Common.{ℕ, List, Bor, sym, ◌∙◌}
use Rattle.std.proofs.lemmas.Bool.{and_parts}
use Rattle.conf_values.proofs.Views.{names_viewed}
use Rattle.conf_values.proofs.texts.domain_names.Goals as goal

pub copies-requires : goal.copies-requires
copies-requires c = (and_parts _ _ (sym (names_viewed (λ (text : Bor (List ℕ)). text.now) c.args.texts.now) ∙ sym c.are_names.ensures ∙ c.if-are_names.true)).1
