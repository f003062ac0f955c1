-- Values that are numbers and addresses in network order (RFC 2132).
use Rattle.std.specs.Prelude.{ℕ, ◌%◌, List, [], ◌∷◌, length, Option, Some, None, ◌==◌, ◌&&◌, nat_lt, if◌then◌else◌}
use Rattle.std.specs.Int.{w16, w32, from_be_bytes}
use Rattle.std.specs.Option.{option_and_then}
use Rattle.net_types.specs.declared.address.Ip4.{Ip4}
use Rattle.v4_options.specs.OptionArea.{Instance}
use Rattle.v4_options.specs.OptionValue.{value_of}

abbrev pub u16_in : List ℕ → Option ℕ
u16_in value = if length value == 2 then Some (from_be_bytes w16 value) else None

abbrev pub u32_in : List ℕ → Option ℕ
u32_in value = if length value == 4 then Some (from_be_bytes w32 value) else None

-- the address of four bytes
abbrev pub address : List ℕ → Ip4
address octets = record { number = from_be_bytes w32 octets }

abbrev pub addr_in : List ℕ → Option Ip4
addr_in value = if length value == 4 then Some (address value) else None

-- the addresses of each four bytes
unfoldable pub addresses : List ℕ → List Ip4
addresses (a ∷ b ∷ c ∷ d ∷ rest) = address (a ∷ b ∷ c ∷ d ∷ []) ∷ addresses rest
addresses _ = []

-- one address or more, and nothing else
abbrev pub addrs_in : List ℕ → Option (List Ip4)
addrs_in value = if nat_lt 0 (length value) && ((length value % 4) == 0) then Some (addresses value) else None

-- ---- the values of codes

-- the number that a code's value is
abbrev pub number_at : ℕ → List Instance → Option ℕ
number_at code instances = option_and_then u32_in (value_of code instances)

-- the address that a code's value is
abbrev pub address_at : ℕ → List Instance → Option Ip4
address_at code instances = option_and_then addr_in (value_of code instances)
