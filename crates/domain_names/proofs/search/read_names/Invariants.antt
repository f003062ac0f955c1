use Rattle.std.proofs.Common.{◌-◌, length, map}
use Rattle.std.specs.String.{string_bytes}
use Rattle.domain_names.proofs.Names.{ReadNames}
use Rattle.domain_names.proofs.search.read_names.Given as goal

abbrev pub invariant-names : goal.invariant-names
invariant-names l = ReadNames l.value (map (λ name. string_bytes name) l.names.items) l.at

abbrev pub decreases-names : goal.decreases-names
decreases-names l = length l.value - l.at
