use Rattle.lease6_evidence.proofs.KeptProofs6.{needs_its_time}
use Rattle.lease6_evidence.proofs.laws.kept_items_have_ten_seconds.Goals as goal

pub returns : goal.returns
returns c = needs_its_time
