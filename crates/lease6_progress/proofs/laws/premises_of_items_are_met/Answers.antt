use Rattle.lease6_progress.proofs.Instance.{one_life_goes_well, rapid_life_goes_well, rebound_life_goes_well, renewed_life_goes_well}
use Rattle.lease6_progress.proofs.laws.premises_of_items_are_met.Goals as goal

pub returns : goal.returns
returns c = record {
  by_offers = one_life_goes_well;
  at_once = rapid_life_goes_well;
  renewed = renewed_life_goes_well;
  rebound = rebound_life_goes_well;
}
