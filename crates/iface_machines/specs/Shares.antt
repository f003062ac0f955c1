-- The subnets that shares have of a prefix.
use Rattle.std.specs.Prelude.{◌≤◌}
use Rattle.net_types.specs.declared.address.Net6.{Net6}
use Rattle.net_types.specs.declared.address.Net.TheVariants as Family
use Rattle.world.specs.Rows.{IsNetwork}

-- a network of IPv6 with two addresses or more
pub record IsSubnet (net : Net6) : Type 0 where
  pub prefix : net.len ≤ 127
  pub clear : IsNetwork (Family.V6 net)
