use Rattle.v6_options.proofs.Fronts.{instances_front, malformed_front}
use Rattle.v6_options.proofs.area.read_front.Goals as goal

pub returns-clause-instances : goal.returns-clause-instances
returns-clause-instances c = instances_front _ _ c.front_at.ensures.exact

pub returns-clause-malformed : goal.returns-clause-malformed
returns-clause-malformed c at = malformed_front at _ _ c.front_at.ensures.exact
