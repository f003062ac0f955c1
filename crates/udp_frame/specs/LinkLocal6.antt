-- The link-local address of an interface (RFC 4291, section 2.5.6): fe80::/64 with the interface's identifier.
use Rattle.std.specs.Prelude.{ℕ, List, [], ◌∷◌, ◌++◌, take, drop, slice_index, bit_xor}
use Rattle.std.specs.Int.{w128, from_be_bytes}
use Rattle.net_types.specs.declared.address.Ip6.{Ip6}
use Rattle.net_types.specs.declared.address.Mac.{Mac}

-- the hardware address with ff fe in its middle, and the bit for "universal" of its first byte turned over (RFC 4291,
-- appendix A)
abbrev pub identifier : Mac → List ℕ
identifier mac =
    (bit_xor (slice_index mac.bytes 0) 2 ∷ take 2 (drop 1 mac.bytes)) ++ (0xff ∷ 0xfe ∷ []) ++ drop 3 mac.bytes

abbrev pub link_local : Mac → Ip6
link_local mac = record { number = from_be_bytes w128 ((0xfe ∷ 0x80 ∷ 0 ∷ 0 ∷ 0 ∷ 0 ∷ 0 ∷ 0 ∷ []) ++ identifier mac) }
