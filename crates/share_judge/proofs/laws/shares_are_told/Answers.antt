use Rattle.evidence.specs.Lease6Evidence.HeldItems.{ItemRests}
use Rattle.share_judge.proofs.Told.{shares_told}
use Rattle.share_judge.proofs.laws.shares_are_told.Goals as goal

pub returns : goal.returns
returns c = shares_told ItemRests
