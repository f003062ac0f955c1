use Rattle.std.proofs.Common.{refl}
use Rattle.client_core.proofs.Sets.{has_more}
use Rattle.client_core.proofs.places.Places.with.Goals as goal

pub returns : goal.returns
returns c = has_more c.args.self _ c.args.place c.if-place-ge-PLACES.false refl
