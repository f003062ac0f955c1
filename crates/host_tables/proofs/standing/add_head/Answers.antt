use Rattle.std.proofs.Common.{◌∙◌}
use Rattle.host_tables.proofs.Contending.{equal_turned}
use Rattle.host_tables.proofs.RowByRow.{more_one}
use Rattle.host_tables.proofs.standing.add_head.Goals as goal

pub returns-in-Some-clause-has : goal.returns-in-Some-clause-has
returns-in-Some-clause-has g c = λ q. c.put_in.ensures.has q ∙ more_one _ _ _ (c.in-Some.ensures.stands q ∙ equal_turned _ q)
