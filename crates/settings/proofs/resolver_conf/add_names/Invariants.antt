use Rattle.std.proofs.Common.{◌≡◌, ◌++◌, map, take}
use Rattle.std.specs.String.{string_bytes}
use Rattle.settings.proofs.resolver_conf.add_names.Given as goal

abbrev pub invariant-loop-name : goal.invariant-loop-name
invariant-loop-name l =
    map string_bytes l.into.items ≡ map string_bytes l.fn.into.items ++ map string_bytes (take l.name-index l.names)
