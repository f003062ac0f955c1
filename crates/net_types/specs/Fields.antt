-- Numbers and addresses in network order: what stands at a place of bytes, and how a value is spelled (RFC 791,
-- appendix B).
use Rattle.std.specs.Prelude.{ℕ, List, take, drop}
use Rattle.std.specs.Int.{w16, w32, w128, from_be_bytes, to_be_bytes}
use Rattle.net_types.specs.declared.address.Ip4.{Ip4}
use Rattle.net_types.specs.declared.address.Ip6.{Ip6}
use Rattle.net_types.specs.declared.address.Mac.{Mac}

-- so many bytes from a place on
abbrev pub field : ℕ → ℕ → List ℕ → List ℕ
field at len bytes = take len (drop at bytes)

abbrev pub u16_field : ℕ → List ℕ → ℕ
u16_field at bytes = from_be_bytes w16 (field at 2 bytes)

abbrev pub u32_field : ℕ → List ℕ → ℕ
u32_field at bytes = from_be_bytes w32 (field at 4 bytes)

abbrev pub ip4_field : ℕ → List ℕ → Ip4
ip4_field at bytes = record { number = u32_field at bytes }

abbrev pub ip6_field : ℕ → List ℕ → Ip6
ip6_field at bytes = record { number = from_be_bytes w128 (field at 16 bytes) }

abbrev pub mac_field : ℕ → List ℕ → Mac
mac_field at bytes = record { bytes = field at 6 bytes }

abbrev pub u16_octets : ℕ → List ℕ
u16_octets number = to_be_bytes w16 number

abbrev pub u32_octets : ℕ → List ℕ
u32_octets number = to_be_bytes w32 number

abbrev pub ip4_octets : Ip4 → List ℕ
ip4_octets ip = u32_octets ip.number

abbrev pub ip6_octets : Ip6 → List ℕ
ip6_octets ip = to_be_bytes w128 ip.number
