use Rattle.lease6_text.proofs.BackLaws.{read_back6, spells_one6}
use Rattle.lease6_text.proofs.laws.leases6_are_read_back.Goals as goal

pub returns-clause-back : goal.returns-clause-back
returns-clause-back c = read_back6

pub returns-clause-one : goal.returns-clause-one
returns-clause-one c = spells_one6
