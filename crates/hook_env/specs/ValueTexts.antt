-- The texts of the values that came with a lease: each read in the form of its code (RFC 2132, RFC 3397, RFC 3442, RFC
-- 3646).
use Rattle.std.specs.Prelude.{ℕ, List, map, Option, None, decimal, ◌==◌, find}
use Rattle.std.specs.Option.{option_map}
use Rattle.net_types.specs.AddressText.{ip4_text, ip6_text}
use Rattle.v4_options.specs.DomainNames.NameText.{text_in}
use Rattle.v4_options.specs.DomainNames.SearchList.{search_in}
use Rattle.v4_options.specs.Numbers.{addr_in, addrs_in, u16_in, u32_in}
use Rattle.v4_options.specs.Routes.{routes_in}
use Rattle.v6_options.specs.Readers.{dns6_in, search6_in}
use Rattle.v4_options.specs.declared.form.ValueForm.{ValueForm}
use Rattle.v4_options.specs.declared.form.ValueForm.TheVariants.{Address, Addresses, Number16, Number32, DomainName, DomainNames, Routes, Opaque}
use Rattle.lease_text.specs.Leases.{ValueContent}
use Rattle.hook_env.specs.Lists.{listed, route_text}

-- the value of a code that came with a lease
abbrev pub value_in : (code : ℕ) → List ValueContent → Option (List ℕ)
value_in code values = option_map (λ value. value.bytes) (find (λ value. value.code == code) values)

-- ---- the text of each form, where the value has it

abbrev pub address_text : List ℕ → Option (List ℕ)
address_text value = option_map ip4_text (addr_in value)

abbrev pub addresses_text : List ℕ → Option (List ℕ)
addresses_text value = option_map (λ addresses. listed (map ip4_text addresses)) (addrs_in value)

abbrev pub number16_text : List ℕ → Option (List ℕ)
number16_text value = option_map decimal (u16_in value)

abbrev pub number32_text : List ℕ → Option (List ℕ)
number32_text value = option_map decimal (u32_in value)

abbrev pub names_text : List ℕ → Option (List ℕ)
names_text value = option_map listed (search_in value)

abbrev pub routes_text : List ℕ → Option (List ℕ)
routes_text value = option_map (λ routes. listed (map route_text routes)) (routes_in value)

abbrev pub value_text : ValueForm → List ℕ → Option (List ℕ)
value_text Address value = address_text value
value_text Addresses value = addresses_text value
value_text Number16 value = number16_text value
value_text Number32 value = number32_text value
value_text DomainName value = text_in value
value_text DomainNames value = names_text value
value_text Routes value = routes_text value
value_text Opaque value = None

-- ---- of DHCPv6

abbrev pub servers6_text : List ℕ → Option (List ℕ)
servers6_text value = option_map (λ servers. listed (map ip6_text servers)) (dns6_in value)

abbrev pub names6_text : List ℕ → Option (List ℕ)
names6_text value = option_map listed (search6_in value)
