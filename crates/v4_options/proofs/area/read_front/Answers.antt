use Rattle.v4_options.proofs.Fronts.{instances_by, malformed_by, told_by}
use Rattle.v4_options.proofs.area.read_front.Goals as goal

pub returns-clause-instances : goal.returns-clause-instances
returns-clause-instances c = instances_by _ _ c.front_at.ensures.exact

pub returns-clause-malformed : goal.returns-clause-malformed
returns-clause-malformed c at = malformed_by at _ _ c.front_at.ensures.exact

pub returns-clause-overload : goal.returns-clause-overload
returns-clause-overload c = told_by _ _ (instances_by _ _ c.front_at.ensures.exact)
