use Rattle.prefix_share.proofs.Pairs.{fit_the_prefix}
use Rattle.prefix_share.proofs.laws.planned_shares_fit.Goals as goal

pub returns : goal.returns
returns c = fit_the_prefix
