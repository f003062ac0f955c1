use Rattle.prefix_share.proofs.SubnetBits.{have_their_bits, lie_within}
use Rattle.prefix_share.proofs.laws.subnets_are_of_the_prefix.Goals as goal

pub returns-clause-bits : goal.returns-clause-bits
returns-clause-bits c = have_their_bits

pub returns-clause-within : goal.returns-clause-within
returns-clause-within c = lie_within
