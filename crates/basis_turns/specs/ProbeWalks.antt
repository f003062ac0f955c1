-- What the code keeps of an address that is probed, after some turns.
use Rattle.std.specs.Prelude.{◌≡◌, List}
use Rattle.net_types.specs.declared.address.Ip4.{Ip4}
use Rattle.evidence_words.specs.Entries.{Entry}
use Rattle.evidence_words.specs.Inputs.{Site}
use Rattle.probe_table.specs.ProbeTimes.{TurnTest}
use Rattle.probe_table.specs.Table as table
use Rattle.basis_turns.specs.Chains.{chain_in, probed_turns_in}
use Rattle.basis_turns.specs.declared.probe_walk.ProbeWalk.{ProbeWalk}

pub record Holds (calm : TurnTest) (site : Site) (addr : Ip4) (past : List Entry) (walk : ProbeWalk) : Type 0 where
  pub table : table.Holds calm site past walk.table
  pub chain : walk.chain ≡ chain_in calm site addr past
  pub probed : walk.probed ≡ probed_turns_in calm site addr past
