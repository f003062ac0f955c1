-- The options of an ACK, byte for byte (RFC 2132, sections 3.3, 3.5, 3.8, 5.1, 5.3, 8.3, 9.11 and 9.12; RFC 3397; RFC
-- 3442). The widths are in bytes:
--
--   mask, broadcast     | address 4 |
--   routers, DNS, NTP   | address 4 | address 4 | .. |
--   MTU                 | number 2 |
--   T1, T2              | seconds 4 |
--   classless routes    | bits 1 | destination 0 to 4 | gateway 4 | .. |
use Rattle.std.specs.Prelude.{ℕ, List, [], ◌∷◌, ◌++◌, Option, Some, None, ◌==◌, nat_le, if◌then◌else◌}
use Rattle.std.specs.Option.{option_map}
use Rattle.std.specs.List.{flat_map}
use Rattle.net_types.specs.declared.address.Ip4.{Ip4}
use Rattle.net_types.specs.Fields.{u16_octets, u32_octets, ip4_octets}
use Rattle.v4_options.specs.declared.code.TheConstants.{SUBNET_MASK, ROUTERS, DOMAIN_NAME_SERVERS, INTERFACE_MTU, BROADCAST_ADDRESS, NTP_SERVERS, RENEWAL_TIME, REBINDING_TIME, DOMAIN_SEARCH, CLASSLESS_ROUTES}
use Rattle.v4_options.specs.OptionArea.{Instance}
use Rattle.granted_values.specs.AckValues.{SentRoute, AckValues}

abbrev pub addresses_text : List Ip4 → List ℕ
addresses_text addresses = flat_map ip4_octets addresses

-- a list of none is left out
abbrev pub addresses_value : List Ip4 → Option (List ℕ)
addresses_value [] = None
addresses_value (first ∷ others) = Some (addresses_text (first ∷ others))

-- how many bytes of a destination are sent (RFC 3442)
abbrev pub octets_of : (width : ℕ) → ℕ
octets_of width =
    if width == 0 then 0
    else if nat_le width 8 then 1
    else if nat_le width 16 then 2
    else if nat_le width 24 then 3
    else 4

abbrev pub route_text : SentRoute → List ℕ
route_text route = route.width ∷ route.sent ++ ip4_octets route.via

abbrev pub routes_text : List SentRoute → List ℕ
routes_text routes = flat_map route_text routes

abbrev pub routes_value : List SentRoute → Option (List ℕ)
routes_value [] = None
routes_value (first ∷ others) = Some (routes_text (first ∷ others))

-- each option, with its value where it is said
abbrev pub Field : Type 0
Field = ℕ × Option (List ℕ)

abbrev pub ack_fields : AckValues → List Field
ack_fields values =
    (SUBNET_MASK, option_map ip4_octets values.mask)
    ∷ (ROUTERS, addresses_value values.routers)
    ∷ (DOMAIN_NAME_SERVERS, addresses_value values.dns)
    ∷ (INTERFACE_MTU, option_map u16_octets values.mtu)
    ∷ (BROADCAST_ADDRESS, option_map ip4_octets values.broadcast)
    ∷ (NTP_SERVERS, addresses_value values.ntp)
    ∷ (RENEWAL_TIME, option_map u32_octets values.t1)
    ∷ (REBINDING_TIME, option_map u32_octets values.t2)
    ∷ (DOMAIN_SEARCH, values.search)
    ∷ (CLASSLESS_ROUTES, routes_value values.routes)
    ∷ []

abbrev pub if_said : ℕ → Option (List ℕ) → List Instance
if_said code None = []
if_said code (Some value) = (code, value) ∷ []

abbrev pub fields_options : List Field → List Instance
fields_options [] = []
fields_options (field ∷ others) = if_said field.0 field.1 ++ fields_options others

abbrev pub ack_options : AckValues → List Instance
ack_options values = fields_options (ack_fields values)
