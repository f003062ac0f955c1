-- Line feeds of texts that are joined.
use Rattle.std.proofs.Common.{ℕ, ◌≡◌, ◌+◌, List, [], ◌∷◌, ◌++◌, length, ap, ◌∙◌}
use Rattle.std.specs.Prelude.{◌==◌}
use Rattle.std.proofs.lemmas.List.{length-append}
use Rattle.std.proofs.lemmas.List.Elements.{filter-append}
use Rattle.script_model.specs.LineNumbers.{line_feeds}
use Rattle.script_model.specs.ScriptTexts.{ended}

pub feeds_join : (a b : List ℕ) → line_feeds (a ++ b) ≡ line_feeds a + line_feeds b
feeds_join a b = ap length (filter-append (λ x. x == 10) a b) ∙ length-append _ _

-- a line has its own
pub feeds_ended : (line : List ℕ) → line_feeds (ended line) ≡ line_feeds line + 1
feeds_ended line = feeds_join line (10 ∷ [])
