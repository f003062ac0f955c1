use Rattle.lease6_evidence.proofs.KeptProofs6.{needs_flag}
use Rattle.lease6_evidence.proofs.laws.kept_items_need_the_flag.Goals as goal

pub returns : goal.returns
returns c = needs_flag
