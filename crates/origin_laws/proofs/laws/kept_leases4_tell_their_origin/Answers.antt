use Rattle.origin_laws.proofs.Turns4.{kept_leases4_tell_origins}
use Rattle.origin_laws.proofs.laws.kept_leases4_tell_their_origin.Goals as goal

pub returns : goal.returns
returns c = kept_leases4_tell_origins
