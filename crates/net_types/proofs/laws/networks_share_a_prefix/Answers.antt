use Rattle.net_types.proofs.NetworkLaws.{masked, shared, told}
use Rattle.net_types.proofs.laws.networks_share_a_prefix.Goals as goal

pub returns-clause-masked : goal.returns-clause-masked
returns-clause-masked c = masked

pub returns-clause-shared : goal.returns-clause-shared
returns-clause-shared c = shared

pub returns-clause-told : goal.returns-clause-told
returns-clause-told c = told
