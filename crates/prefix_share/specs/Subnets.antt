-- The subnets of a delegated prefix: bits that are added to the prefix make unique, longer prefixes (RFC 3633, section
-- 12.1).
use Rattle.std.specs.Prelude.{ℕ, ◌+◌, ◌-◌, ◌*◌, ◌/◌, ◌%◌, ◌^◌, ◌≤◌, Bool, ◌==◌, nat_le, nat_lt, ◌&&◌, Option, Some, None, if◌then◌else◌}
use Rattle.net_types.specs.declared.address.Ip6.{Ip6}
use Rattle.net_types.specs.declared.address.Net6.{Net6}
use Rattle.prefix_share.specs.declared.share.Share.{Share}

-- how many addresses a prefix of this length has
abbrev pub address_count : ℕ → ℕ
address_count len = 2 ^ (128 - len)

-- whether an address has the prefix of a net
abbrev pub is_within : Ip6 → Net6 → Bool
is_within ip net = (ip.number / address_count net.len) == (net.ip.number / address_count net.len)

-- the first address with the bits of a prefix
abbrev pub network_number : Net6 → ℕ
network_number prefix = prefix.ip.number - prefix.ip.number % address_count prefix.len

-- ---- the subnet of a share

-- a share's subnet has a prefix of 1 to 127 bits
pub record FitsShare (share : Share) : Type 0 where
  pub least : 1 ≤ share.len
  pub most : share.len ≤ 127

-- whether a prefix of this length isn't longer than the share's subnet, and the SLA id fits in the bits between
abbrev pub has_room : (prefix_len : ℕ) → Share → Bool
has_room prefix_len share = nat_le prefix_len share.len && nat_lt share.sla (2 ^ (share.len - prefix_len))

-- the prefix's bits, with the SLA id in the bits that end at the share's length
abbrev pub subnet_of : Net6 → Share → Net6
subnet_of prefix share =
    record { ip = record { number = network_number prefix + share.sla * address_count share.len }; len = share.len }

abbrev pub subnet_in : Net6 → Share → Option Net6
subnet_in prefix share = if has_room prefix.len share then Some (subnet_of prefix share) else None
