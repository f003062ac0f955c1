-- The values of options 23 and 24 (RFC 3646, sections 3 and 4).
use Rattle.std.specs.Prelude.{ℕ, zero, suc, ◌/◌, ◌%◌, Bool, false, List, [], ◌∷◌, length, drop, Option, Some, None, nat_le, nat_lt, ◌==◌, ◌&&◌, ◌||◌, if◌then◌else◌}
use Rattle.net_types.specs.declared.address.Ip6.{Ip6}
use Rattle.domain_names.specs.SearchList.{search_in}
use Rattle.v6_options.specs.Ias.{ip6_in}

-- so many addresses, one after another
abbrev pub addresses_in : ℕ → List ℕ → List Ip6
addresses_in zero value = []
addresses_in (suc count) value = ip6_in 0 value ∷ addresses_in count (drop 16 value)

-- one address or more, and nothing else
abbrev pub dns6_in : List ℕ → Option (List Ip6)
dns6_in value =
    if nat_lt 0 (length value) && ((length value % 16) == 0) then Some (addresses_in (length value / 16) value)
    else None

-- whether a pointer stands where the length of a label is due, after so many bytes
abbrev pub pointer_after : ℕ → List ℕ → Bool
pointer_after skip [] = false
pointer_after (suc k) (b ∷ rest) = pointer_after k rest
pointer_after zero (len ∷ rest) = nat_le 192 len || pointer_after len rest

-- The names that are the value: one or more. In DHCPv6 none is compressed (RFC 8415, section 10).
abbrev pub search6_in : List ℕ → Option (List (List ℕ))
search6_in value = if pointer_after 0 value then None else search_in value
