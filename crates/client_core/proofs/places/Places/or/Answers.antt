use Rattle.std.proofs.Common.{refl}
use Rattle.client_core.proofs.Sets.{has_either}
use Rattle.client_core.proofs.places.Places.or.Goals as goal

pub returns : goal.returns
returns c = has_either c.args.self c.args.those _ refl
