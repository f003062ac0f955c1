-- A DHCPv6 server's message, byte for byte (RFC 8415, sections 8 and 21; RFC 3646). The widths are in bytes:
--
--   message              | type 1 | transaction ID 3 | options |
--   IA_NA, IA_PD         | IAID 4 | T1 4 | T2 4 | options |
--   address of an IA_NA  | address 16 | preferred lifetime 4 | valid lifetime 4 | options |
--   prefix of an IA_PD   | preferred lifetime 4 | valid lifetime 4 | length in bits 1 | prefix 16 | options |
--   status               | status 2 | text |
--   preference           | value 1 |
--   SOL_MAX_RT           | seconds 4 |
--   DNS servers          | address 16 | address 16 | .. |
use Rattle.std.specs.Prelude.{ℕ, Bool, true, false, List, [], ◌∷◌, ◌++◌, map, Option, Some, None}
use Rattle.std.specs.Option.{option_map}
use Rattle.std.specs.List.{flat_map}
use Rattle.net_types.specs.declared.address.Ip6.{Ip6}
use Rattle.net_types.specs.Fields.{u16_octets, u32_octets, ip6_octets}
use Rattle.v6_options.specs.declared.ia.IaKind.{IaKind}
use Rattle.v6_options.specs.declared.ia.IaKind.TheVariants.{Na, Pd}
use Rattle.v6_options.specs.Codes.{client_identifier, server_identifier, ia_na, ia_address, preference, status_code, rapid_commit, dns_servers, domain_list, ia_pd, ia_prefix, sol_max_rt}
use Rattle.v6_options.specs.OptionArea.{Instance}
use Rattle.v6_message.specs.declared.kind.ServerKind6.{ServerKind6}
use Rattle.v6_message.specs.declared.kind.ServerKind6.TheVariants.{Advertise, Reply}
use Rattle.v6_message.specs.Requests.{options_text, xid_text}
use Rattle.server_data6.specs.Spoken.{StatusText, GivenItem, GivenIa, Reply6}

-- an option that may be left out
abbrev pub if_said : ℕ → Option (List ℕ) → List Instance
if_said code None = []
if_said code (Some value) = (code, value) ∷ []

abbrev pub status_text : StatusText → List ℕ
status_text status = u16_octets status.number ++ status.text

abbrev pub status_option : Option StatusText → List Instance
status_option status = if_said status_code (option_map status_text status)

-- ---- IAs

abbrev pub item_code : IaKind → ℕ
item_code Na = ia_address
item_code Pd = ia_prefix

abbrev pub item_value : IaKind → GivenItem → List ℕ
item_value Na item =
    ip6_octets item.net.ip ++ u32_octets item.preferred ++ u32_octets item.valid
    ++ options_text (status_option item.status)
item_value Pd item =
    u32_octets item.preferred ++ u32_octets item.valid ++ (item.net.len ∷ ip6_octets item.net.ip)
    ++ options_text (status_option item.status)

abbrev pub item_option : IaKind → GivenItem → Instance
item_option kind item = (item_code kind, item_value kind item)

abbrev pub ia_code : IaKind → ℕ
ia_code Na = ia_na
ia_code Pd = ia_pd

abbrev pub ia_options : GivenIa → List Instance
ia_options ia = status_option ia.status ++ map (item_option ia.kind) ia.items

abbrev pub ia_value : GivenIa → List ℕ
ia_value ia = u32_octets ia.iaid ++ u32_octets ia.t1 ++ u32_octets ia.t2 ++ options_text (ia_options ia)

abbrev pub ia_option : GivenIa → Instance
ia_option ia = (ia_code ia.kind, ia_value ia)

-- ---- the other options

abbrev pub servers_text : List Ip6 → List ℕ
servers_text servers = flat_map ip6_octets servers

-- a list of no servers is left out
abbrev pub servers_value : List Ip6 → Option (List ℕ)
servers_value [] = None
servers_value (first ∷ others) = Some (servers_text (first ∷ others))

abbrev pub rapid_value : Bool → Option (List ℕ)
rapid_value false = None
rapid_value true = Some []

-- each option beside the IAs, with its value where it is said
abbrev pub Field : Type 0
Field = ℕ × Option (List ℕ)

abbrev pub reply6_fields : Reply6 → List Field
reply6_fields reply =
    (client_identifier, reply.client)
    ∷ (server_identifier, reply.server)
    ∷ (status_code, option_map status_text reply.status)
    ∷ (preference, option_map (λ value. value ∷ []) reply.preference)
    ∷ (rapid_commit, rapid_value reply.rapid)
    ∷ (dns_servers, servers_value reply.dns)
    ∷ (domain_list, reply.search)
    ∷ (sol_max_rt, option_map u32_octets reply.sol_max)
    ∷ []

abbrev pub fields_options : List Field → List Instance
fields_options [] = []
fields_options (field ∷ others) = if_said field.0 field.1 ++ fields_options others

-- ---- the message

abbrev pub type_of : ServerKind6 → ℕ
type_of Advertise = 2
type_of Reply = 7

abbrev pub reply6_options : Reply6 → List Instance
reply6_options reply = fields_options (reply6_fields reply) ++ map ia_option reply.ias

abbrev pub reply6_text : Reply6 → List ℕ
reply6_text reply = type_of reply.kind ∷ xid_text reply.xid ++ options_text (reply6_options reply)
