use Rattle.std.proofs.Common.{◌∙◌, sym}
use Rattle.std.specs.String.{string_bytes}
use Rattle.client_core.proofs.SaidFirst.{said_first}
use Rattle.client_core.proofs.resolver_parts.names4.Goals as goal

pub returns-then-not-is_empty : goal.returns-then-not-is_empty
returns-then-not-is_empty c =
    said_first string_bytes c.in_ok-search.search.items _ _ _ c.in_ok-search.ensures c.in_ok-search.search.ok.0
    (sym c.is_empty.ensures ∙ c.if-not-is_empty.true)
