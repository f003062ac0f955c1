use Rattle.option_index.proofs.PassSteps.{pass_from}
use Rattle.option_index.proofs.area.front_from.Goals as goal

pub returns : goal.returns
returns c = pass_from _ _ _ _ c.rest_from.ensures c.requires c.front_at.ensures.exact c.front_at.ensures.room
