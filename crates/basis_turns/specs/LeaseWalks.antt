-- What the code keeps of the turns of a lease, after some of them.
use Rattle.std.specs.Prelude.{◌≡◌, List}
use Rattle.net_types.specs.declared.address.Ip4.{Ip4}
use Rattle.evidence_words.specs.Entries.{Entry}
use Rattle.evidence_words.specs.Inputs.{Site}
use Rattle.lease_judge.specs.ProbedTurns.{calm_in}
use Rattle.lease_judge.specs.Turns as judge
use Rattle.basis_turns.specs.LeaseFinds.{granting_in, opened_in}
use Rattle.basis_turns.specs.ProbeWalks.{Holds}
use Rattle.basis_turns.specs.declared.leases.LeaseWalk.{LeaseWalk}

pub record Tells (site : Site) (addr : Ip4) (past : List Entry) (walk : LeaseWalk) : Type 0 where
  pub judge : judge.Tells walk.judge site past
  pub opened : walk.opened ≡ opened_in site past
  pub granting : walk.granting ≡ granting_in site past
  pub probes : Holds (calm_in site) site addr past walk.probes
