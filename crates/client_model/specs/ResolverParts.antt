-- What the interfaces tell the resolver (resolv.conf(5)).
use Rattle.std.specs.Prelude.{ℕ, Bool, ◌&&◌, ◌||◌, if◌then◌else◌, List, [], ◌∷◌, ◌++◌, flat_map, map, Option, Some, None, option_and_then, unwrap_or}
use Rattle.std.specs.Option.{is_some}
use Rattle.v4_options.specs.DomainNames.NameText.{text_in}
use Rattle.v4_options.specs.DomainNames.SearchList.{search_in}
use Rattle.v4_options.specs.declared.code.TheConstants.{DOMAIN_NAME, DOMAIN_NAME_SERVERS, DOMAIN_SEARCH}
use Rattle.v4_options.specs.Numbers.{addrs_in}
use Rattle.v6_options.specs.declared.code.TheConstants.{DNS_SERVERS, DOMAIN_LIST}
use Rattle.v6_options.specs.Readers.{dns6_in, search6_in}
use Rattle.v4_client.specs.LeaseText.Leases.{LeaseContent, ValueContent}
use Rattle.v6_client.specs.Lease6Text.Leases.{Lease6Content}
use Rattle.resolver_text.specs.declared.part.Family.{Family}
use Rattle.resolver_text.specs.declared.part.Family.TheVariants as family
use Rattle.resolver_text.specs.declared.part.Server.{Server}
use Rattle.resolver_text.specs.declared.part.Server.TheVariants as server
use Rattle.resolver_text.specs.Parts.{PartContent}
use Rattle.resolver_text.specs.ResolverText.{resolver_text}
use Rattle.v4_client.specs.Clients.{held_of}
use Rattle.v6_client.specs.Clients as dhcp6
use Rattle.settings.specs.declared.interfaces.Managed.{Managed}
use Rattle.settings.specs.ResolverSettings.{ResolverSettings}
use Rattle.client_model.specs.declared.interfaces.Iface.{Iface}
use Rattle.client_model.specs.WantedRows.{is_in_force, metric_of, value_in}

-- what is said first, where it isn't empty
abbrev pub first_said : {X : Type 0} → List X → List X → List X
first_said [] later = later
first_said (x ∷ xs) later = x ∷ xs

-- what a value gives, nothing where it isn't well formed
abbrev pub read_as : {X : Type 0} → (List ℕ → Option (List X)) → (code : ℕ) → List ValueContent → List X
read_as reading code values = unwrap_or (option_and_then reading (value_in code values)) []

-- a domain is searched where no names to search in are said
abbrev pub domain_names : (domain : List ℕ) → List (List ℕ)
domain_names [] = []
domain_names (c ∷ cs) = (c ∷ cs) ∷ []

abbrev pub names_of : (search : List (List ℕ)) → (domain : List ℕ) → List (List ℕ)
names_of search domain = first_said search (domain_names domain)

abbrev pub part_of : Managed → Family → List Server → (names : List (List ℕ)) → PartContent
part_of managed family servers names = record {
  metric = metric_of managed;
  index = managed.spec.index;
  name = managed.spec.name;
  family = family;
  servers = servers;
  names = names;
}

-- ---- IPv4: what is configured goes before what a lease says (RFC 2132, RFC 3397)

abbrev pub names4 : ResolverSettings → List ValueContent → List (List ℕ)
names4 settings values =
    names_of (first_said settings.search (read_as search_in DOMAIN_SEARCH values))
    (first_said settings.domain (read_as text_in DOMAIN_NAME values))

abbrev pub servers4 : ResolverSettings → List ValueContent → List Server
servers4 settings values = map server.V4 (first_said settings.servers (read_as addrs_in DOMAIN_NAME_SERVERS values))

abbrev pub values_held : Option LeaseContent → List ValueContent
values_held None = []
values_held (Some lease) = lease.values

abbrev pub part4_with : Managed → Option LeaseContent → PartContent
part4_with managed lease =
    part_of managed family.V4 (servers4 managed.conf.resolver (values_held lease))
    (names4 managed.conf.resolver (values_held lease))

-- there is a part where a lease is held, or a static address is in force
abbrev pub has_part4 : Iface → Bool
has_part4 iface = is_some (held_of iface.dhcp4) || (is_in_force iface && is_some iface.managed.conf.address)

abbrev pub parts4 : Iface → List PartContent
parts4 iface = if has_part4 iface then part4_with iface.managed (held_of iface.dhcp4) ∷ [] else []

-- ---- IPv6: what a lease says (RFC 3646)

abbrev pub part6_with : Managed → Lease6Content → PartContent
part6_with managed lease =
    part_of managed family.V6 (map server.V6 (read_as dns6_in DNS_SERVERS lease.values))
    (read_as search6_in DOMAIN_LIST lease.values)

abbrev pub parts6 : Managed → Option Lease6Content → List PartContent
parts6 managed None = []
parts6 managed (Some lease) = part6_with managed lease ∷ []

-- ---- the text

abbrev pub iface_parts : Iface → List PartContent
iface_parts iface = parts4 iface ++ parts6 iface.managed (dhcp6.held_of iface.dhcp6)

abbrev pub resolver_parts : List Iface → List PartContent
resolver_parts ifaces = flat_map iface_parts ifaces

abbrev pub some_text : List ℕ → Option (List ℕ)
some_text [] = None
some_text (c ∷ cs) = Some (c ∷ cs)

-- the text of all parts; there is none where they say nothing
unfoldable pub resolver_wanted : List Iface → Option (List ℕ)
resolver_wanted ifaces = some_text (resolver_text (resolver_parts ifaces))
