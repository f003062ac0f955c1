use Rattle.progress.proofs.Turns.{interface_holds_in_time}
use Rattle.progress.proofs.laws.interfaces_hold_link_local.Goals as goal

pub returns : goal.returns
returns c = interface_holds_in_time
