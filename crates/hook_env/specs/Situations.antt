-- What a hook is told of, without where it lies in memory.
use Rattle.std.specs.Prelude.{ℕ, Bool, List, map}
use Rattle.net_types.specs.declared.address.Net4.{Net4}
use Rattle.net_types.specs.declared.address.Net6.{Net6}
use Rattle.net_types.specs.declared.interface.IfSpec.{IfSpec}
use Rattle.lease_text.specs.Leases.{LeaseContent, lease_content}
use Rattle.lease6_text.specs.Leases.{Lease6Content, lease6_content}
use Rattle.world.specs.declared.reasons.Reason.{Reason}
use Rattle.world.specs.HookCalls.{Variable, variable_of}
use Rattle.hook_env.specs.declared.situation.Held.{Held}
use Rattle.hook_env.specs.declared.situation.Held.TheVariants as held
use Rattle.hook_env.specs.declared.situation.Situation.{Situation}

-- what an interface holds of one kind: nothing, a DHCPv4 lease, an IPv4 address with its network (link-local or
-- static), a DHCPv6 lease, an address out of a delegated prefix with its length
pub data HeldContent : Type 0 where
  Nothing : HeldContent
  Leased4 : (lease : LeaseContent) → HeldContent
  Address4 : (net : Net4) → HeldContent
  Leased6 : (lease : Lease6Content) → HeldContent
  Delegated : (net : Net6) → HeldContent

abbrev pub held_content : Held → HeldContent
held_content held.Nothing = Nothing
held_content (held.Leased4 lease) = Leased4 (lease_content lease.now)
held_content (held.Address4 net) = Address4 net
held_content (held.Leased6 lease) = Leased6 (lease6_content lease.now)
held_content (held.Delegated net) = Delegated net

-- an event of an interface, as its hook is told of it
pub record SituationContent : Type 0 where
  pub reason : Reason
  pub interface : IfSpec
  pub metric : ℕ
  pub up : Bool
  pub script : List ℕ
  pub env : List Variable
  pub held_before : HeldContent
  pub held_now : HeldContent

abbrev pub situation_content : Situation → SituationContent
situation_content situation = record {
  reason = situation.reason;
  interface = situation.interface;
  metric = situation.metric;
  up = situation.up;
  script = situation.script.now;
  env = map variable_of situation.env.now;
  held_before = held_content situation.held_before;
  held_now = held_content situation.held_now;
}
