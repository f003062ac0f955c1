use Rattle.evidence.specs.Lease6Evidence.ItemBasis.{ItemBasis}
use Rattle.evidence.specs.Lease6Evidence.KeptBasis6.{KeptBasis6}
use Rattle.share_judge.proofs.Told.{shares_of_either}
use Rattle.share_judge.proofs.laws.shares_are_of_either.Goals as goal

pub returns : goal.returns
returns c = shares_of_either ItemBasis KeptBasis6
