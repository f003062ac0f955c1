use Rattle.std.proofs.Common.{◌≡◌, ◌++◌, length}
use Rattle.v4_options.specs.Numbers.{addresses}
use Rattle.v4_options.proofs.numbers.addresses.Given as goal

abbrev pub invariant-addresses : goal.invariant-addresses
invariant-addresses l = l.all.items ++ addresses l.rest ≡ addresses l.value

abbrev pub decreases-addresses : goal.decreases-addresses
decreases-addresses l = length l.rest
