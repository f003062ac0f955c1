use Rattle.std.proofs.Common.{ℕ, List, Bor}
use Rattle.conf_values.proofs.TextLaws.{parts_text}
use Rattle.conf_values.proofs.texts.variable.Goals as goal

pub owned_text-requires : goal.owned_text-requires
owned_text-requires c =
    (parts_text (λ (parts : Bor (List ℕ) × Bor (List ℕ)). (parts.0.now, parts.1.now)) c.variable_parts.result
    (c.in-Some.name, c.in-Some.value) c.args.text.now c.variable_parts.ensures c.in-Some.is).name

pub owned_text-requires-in-Some : goal.owned_text-requires-in-Some
owned_text-requires-in-Some c =
    (parts_text (λ (parts : Bor (List ℕ) × Bor (List ℕ)). (parts.0.now, parts.1.now)) c.variable_parts.result
    (c.in-Some.name, c.in-Some.value) c.args.text.now c.variable_parts.ensures c.in-Some.is).value
