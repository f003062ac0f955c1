use Rattle.lease_evidence.proofs.KeptNeedsProofs.{ends_with_kept, needs_flag, needs_its_address, needs_origin}
use Rattle.lease_evidence.proofs.laws.kept_leases_need_their_file.Goals as goal

pub returns-clause-flag : goal.returns-clause-flag
returns-clause-flag c = needs_flag

pub returns-clause-origin : goal.returns-clause-origin
returns-clause-origin c = needs_origin

pub returns-clause-address : goal.returns-clause-address
returns-clause-address c = needs_its_address

pub returns-clause-lifetime : goal.returns-clause-lifetime
returns-clause-lifetime c = ends_with_kept
