-- Laws on the subnet of a share.
use Rattle.std.specs.Prelude.{◌≡◌, ◌-◌, ◌/◌, ◌%◌, ◌^◌, IsTrue, IfSome}
use Rattle.net_types.specs.declared.address.Ip6.{Ip6}
use Rattle.net_types.specs.declared.address.Net6.{Net6}
use Rattle.prefix_share.specs.declared.share.Share.{Share}
use Rattle.prefix_share.specs.Subnets.{FitsShare, address_count, is_within, subnet_in}

-- the bits of a net that is the share's subnet of a prefix
pub record HasBits (prefix : Net6) (share : Share) (net : Net6) : Type 0 where
  pub leading : net.ip.number / address_count prefix.len ≡ prefix.ip.number / address_count prefix.len
  pub added : net.ip.number / address_count share.len % 2 ^ (share.len - prefix.len) ≡ share.sla
  pub rest : net.ip.number % address_count share.len ≡ 0

abbrev pub HaveTheirBits : Type 0
HaveTheirBits =
    (prefix : Net6) (share : Share) → FitsShare share
    → IfSome (subnet_in prefix share) (λ net. HasBits prefix share net)

-- each address of a subnet is one of the prefix
abbrev pub LieWithin : Type 0
LieWithin = (prefix : Net6) (share : Share) → FitsShare share
    → IfSome (subnet_in prefix share) (λ net. (ip : Ip6) → IsTrue (is_within ip net) → IsTrue (is_within ip prefix))
