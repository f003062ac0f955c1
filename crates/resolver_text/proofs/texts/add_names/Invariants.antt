use Rattle.std.proofs.Common.{map, take}
use Rattle.std.specs.Prelude.{filter}
use Rattle.std.specs.String.{string_bytes}
use Rattle.domain_names.specs.NameText.{is_name}
use Rattle.resolver_text.specs.Keeping.{KeepsOn}
use Rattle.resolver_text.proofs.texts.add_names.Given as goal

abbrev pub invariant-loop-name : goal.invariant-loop-name
invariant-loop-name l =
    KeepsOn l.limit (filter is_name (map (λ name. string_bytes name) (take l.name-index l.part.names.items)))
    (map (λ name. name.now) l.fn.names.items) (map (λ name. name.now) l.names.items)
