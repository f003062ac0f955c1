use Rattle.std.proofs.Common.{refl}
use Rattle.client_core.proofs.Sets.{has_all}
use Rattle.client_core.proofs.places.Places.all.Goals as goal

pub returns : goal.returns
returns c = has_all _ refl
