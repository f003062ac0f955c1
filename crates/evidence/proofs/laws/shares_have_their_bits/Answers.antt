use Rattle.evidence.proofs.ShareProofs.{shares_bits}
use Rattle.evidence.proofs.laws.shares_have_their_bits.Goals as goal

pub returns : goal.returns
returns c = shares_bits
