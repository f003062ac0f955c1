use Rattle.v6_client_laws.proofs.KeptOrigins.{grants_origin, origins_stay}
use Rattle.v6_client_laws.proofs.laws.keeps_origins6.Goals as goal

pub returns-clause-grants : goal.returns-clause-grants
returns-clause-grants c = grants_origin

pub returns-clause-stays : goal.returns-clause-stays
returns-clause-stays c = origins_stay
