use Rattle.v6_options.proofs.OptionTexts.{tree_instances_are, tree_whole, broken_found}
use Rattle.v6_options.proofs.OptionShapes.{option_either}
use Rattle.v6_options.proofs.laws.option_law.Goals as goal

pub returns-clause-instances : goal.returns-clause-instances
returns-clause-instances c = tree_instances_are

pub returns-clause-whole : goal.returns-clause-whole
returns-clause-whole c = tree_whole

pub returns-clause-malformed : goal.returns-clause-malformed
returns-clause-malformed c at area place broken = broken_found at broken

pub returns-clause-either : goal.returns-clause-either
returns-clause-either c = option_either
