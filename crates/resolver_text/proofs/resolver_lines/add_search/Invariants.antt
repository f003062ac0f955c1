use Rattle.std.proofs.Common.{◌≡◌, ◌++◌, map, take}
use Rattle.std.specs.String.{string_bytes}
use Rattle.resolver_text.specs.ResolverText.{search_line}
use Rattle.resolver_text.proofs.resolver_lines.add_search.Given as goal

abbrev pub invariant-loop-name : goal.invariant-loop-name
invariant-loop-name l = string_bytes l.text ≡ string_bytes l.fn.text ++ search_line (map (λ name. name.now) (take l.name-index l.names))
