use Rattle.duid_text.proofs.DuidLaws.{read_back, spells_one, link_layer_is_duid}
use Rattle.duid_text.proofs.laws.duids_are_read_back.Goals as goal

pub returns-clause-back : goal.returns-clause-back
returns-clause-back c = read_back

pub returns-clause-one : goal.returns-clause-one
returns-clause-one c = spells_one

pub returns-clause-address : goal.returns-clause-address
returns-clause-address c = link_layer_is_duid
