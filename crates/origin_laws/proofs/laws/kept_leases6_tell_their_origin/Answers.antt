use Rattle.origin_laws.proofs.Shown.{kept_leases_tell_origins}
use Rattle.origin_laws.proofs.laws.kept_leases6_tell_their_origin.Goals as goal

pub returns : goal.returns
returns c = kept_leases_tell_origins
