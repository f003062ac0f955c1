use Rattle.device_evidence.proofs.Holding.{hosts_hold}
use Rattle.device_evidence.proofs.laws.a_host_holds_what_is_wanted.Goals as goal

pub returns : goal.returns
returns c = hosts_hold
