-- Addresses whose prefix length need not be written.
use Rattle.std.specs.Prelude.{ℕ, ◌/◌, ◌^◌, nat_lt, List, Option, Some, None, option_map, if◌then◌else◌}
use Rattle.net_types.specs.declared.address.Ip4.{Ip4}
use Rattle.net_types.specs.declared.address.Net4.{Net4}
use Rattle.net_types.specs.AddressText.{ip4_at, net4_at}

abbrev pub first_byte : Ip4 → ℕ
first_byte address = address.number / 2 ^ 24

-- the length of an address by its class (RFC 791, section 3.2)
abbrev pub class_len : Ip4 → ℕ
class_len address =
    if nat_lt (first_byte address) 128 then 8
    else if nat_lt (first_byte address) 192 then 16
    else 24

-- a net of one address
abbrev pub host_len : Ip4 → ℕ
host_len address = 32

abbrev pub net_by : (Ip4 → ℕ) → Option Net4 → Option Ip4 → Option Net4
net_by len_of (Some net) address = Some net
net_by len_of None address = option_map (λ ip. record { ip = ip; len = len_of ip }) address

-- ADDRESS/LEN, or ADDRESS with the length that is usual for it
abbrev pub net_or_address : (Ip4 → ℕ) → List ℕ → Option Net4
net_or_address len_of text = net_by len_of (net4_at text) (ip4_at text)

abbrev pub server_net : List ℕ → Option Net4
server_net text = net_or_address host_len text

abbrev pub own_net : List ℕ → Option Net4
own_net text = net_or_address class_len text
