use Rattle.std.proofs.Common.{ℕ, List, Bor}
use Rattle.conf_values.proofs.TextLaws.{names_text}
use Rattle.conf_values.proofs.texts.copies.Goals as goal

pub owned_text-requires : goal.owned_text-requires
owned_text-requires c = names_text (λ (text : Bor (List ℕ)). text.now) c.args.texts.now c.loop-text.text-index _ c.loop-text-test.true c.requires
