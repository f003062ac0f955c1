use Rattle.std.proofs.Common.{◌-◌, length}
use Rattle.domain_names.proofs.Names.{WalkedNames}
use Rattle.domain_names.proofs.search.is_search.Given as goal

abbrev pub invariant-names : goal.invariant-names
invariant-names l = WalkedNames l.value l.from

abbrev pub decreases-names : goal.decreases-names
decreases-names l = length l.value - l.from
