use Rattle.share_judge.proofs.KeptTold.{kept_shares_told}
use Rattle.share_judge.proofs.laws.kept_shares_are_told.Goals as goal

pub returns : goal.returns
returns c = kept_shares_told
