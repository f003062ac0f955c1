use Rattle.device_evidence.proofs.Filing.{stores_hold}
use Rattle.device_evidence.proofs.laws.a_store_holds_what_is_kept.Goals as goal

pub returns : goal.returns
returns c = stores_hold
