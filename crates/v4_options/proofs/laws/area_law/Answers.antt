use Rattle.v4_options.proofs.AreaLaws.{area_instances, area_whole, area_malformed, area_either}
use Rattle.v4_options.proofs.laws.area_law.Goals as goal

pub returns-clause-instances : goal.returns-clause-instances
returns-clause-instances c = area_instances

pub returns-clause-whole : goal.returns-clause-whole
returns-clause-whole c = area_whole

pub returns-clause-malformed : goal.returns-clause-malformed
returns-clause-malformed c = area_malformed

pub returns-clause-either : goal.returns-clause-either
returns-clause-either c = area_either
