use Rattle.child_devices.proofs.CallPairs.{ended_so}
use Rattle.child_devices.proofs.children.end.Goals as goal

pub returns-clause-asked : goal.returns-clause-asked
returns-clause-asked g c = ended_so _ _ _ _ c.in_ok-kill.ensures.told c.wait.ensures.told
