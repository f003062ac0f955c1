-- IPv4 networks: the mask of a prefix length, and the addresses that share a prefix (RFC 950; RFC 4632, section 3.1).
use Rattle.std.specs.Prelude.{◌≡◌, ◌↔◌, ℕ, ◌-◌, ◌/◌, ◌%◌, ◌^◌, Bool, IsTrue, ◌==◌, bit_and}
use Rattle.std.specs.Int.{leading_ones, w32}
use Rattle.net_types.specs.declared.address.Ip4.{Ip4}
use Rattle.net_types.specs.declared.address.Net4.{Net4}

-- how many addresses a network of this prefix length has
abbrev pub address_count : ℕ → ℕ
address_count len = 2 ^ (32 - len)

-- the mask of this prefix length: as many leading ones, and zeros after them
abbrev pub mask_of : ℕ → Ip4
mask_of len = record { number = 2 ^ 32 - address_count len }

-- the prefix length that a mask tells: its leading ones
abbrev pub mask_len : Ip4 → ℕ
mask_len mask = leading_ones w32 mask.number

-- a net without the bits past its prefix
abbrev pub network_of : Net4 → Net4
network_of net =
    record { ip = record { number = net.ip.number - net.ip.number % address_count net.len }; len = net.len }

-- whether an address has the prefix of a net
abbrev pub is_within : Ip4 → Net4 → Bool
is_within ip net = (ip.number / address_count net.len) == (net.ip.number / address_count net.len)

-- ---- laws

-- an address and its mask give its network (RFC 950, section 2.1)
abbrev pub IsMasked : Net4 → Type 0
IsMasked net = (network_of net).ip.number ≡ bit_and net.ip.number (mask_of net.len).number

-- the addresses with the prefix of a net are those whose own network is that of the net
abbrev pub Shares : Ip4 → Net4 → Type 0
Shares ip net = IsTrue (is_within ip net) ↔ (network_of (record { ip = ip; len = net.len }) ≡ network_of net)
