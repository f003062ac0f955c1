use Rattle.std.proofs.Common.{◌≡◌, ◌++◌, ◌/◌, length}
use Rattle.v6_options.specs.Readers.{addresses_in}
use Rattle.v6_options.proofs.readers.addresses.Given as goal

abbrev pub invariant-addresses : goal.invariant-addresses
invariant-addresses l = l.all.items ++ addresses_in (length l.rest / 16) l.rest ≡ addresses_in (length l.value / 16) l.value

abbrev pub decreases-addresses : goal.decreases-addresses
decreases-addresses l = length l.rest
