-- What the code keeps of the turns of a link-local address, after some of them.
use Rattle.std.specs.Prelude.{◌≡◌, List}
use Rattle.net_types.specs.declared.address.Ip4.{Ip4}
use Rattle.evidence_words.specs.Entries.{Entry}
use Rattle.evidence_words.specs.Inputs.{Site, has_carrier}
use Rattle.lease_judge.specs.LocalJudges.Choices.{is_calm}
use Rattle.lease_judge.specs.LocalJudges.Judge as judge
use Rattle.basis_turns.specs.LocalFinds.{earliest_in, latest_in}
use Rattle.basis_turns.specs.ProbeWalks.{Holds}
use Rattle.basis_turns.specs.declared.locals.LocalWalk.{LocalWalk}

pub record Tells (site : Site) (addr : Ip4) (past : List Entry) (walk : LocalWalk) : Type 0 where
  pub judge : judge.Tells walk.judge site past
  pub up : walk.up ≡ has_carrier site past
  pub probes : Holds (is_calm site) site addr past walk.probes
  pub earliest : walk.earliest ≡ earliest_in site addr past
  pub latest : walk.latest ≡ latest_in site addr past
