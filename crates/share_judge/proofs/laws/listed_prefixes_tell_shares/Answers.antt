use Rattle.evidence.specs.Lease6Evidence.HeldItems.{ItemRests}
use Rattle.share_judge.proofs.Told.{lists_tell}
use Rattle.share_judge.proofs.laws.listed_prefixes_tell_shares.Goals as goal

pub returns : goal.returns
returns c = lists_tell ItemRests
