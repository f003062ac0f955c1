-- The variables of what is held of IPv6.
use Rattle.std.specs.Prelude.{ℕ, List, [], ◌∷◌, flat_map, map, Option}
use Rattle.std.specs.Option.{option_and_then}
use Rattle.net_types.specs.declared.address.Net6.{Net6}
use Rattle.net_types.specs.AddressText.{ip6_text, net6_text}
use Rattle.v6_options.specs.declared.code.TheConstants.{DNS_SERVERS, DOMAIN_LIST}
use Rattle.v6_options.specs.declared.ia.IaKind.{IaKind}
use Rattle.v6_options.specs.declared.ia.IaKind.TheVariants.{Na, Pd}
use Rattle.lease6_text.specs.declared.lease.Item6.{Item6}
use Rattle.lease6_text.specs.Leases.{IaLeaseContent, Lease6Content}
use Rattle.world.specs.HookCalls.{Variable}
use Rattle.hook_env.specs.declared.situation.Stage.{Stage}
use Rattle.hook_env.specs.declared.variables.Lease6Variable.{Lease6Variable}
use Rattle.hook_env.specs.declared.variables.Lease6Variable.TheVariants.{Addresses, Prefixes, NameServers, DomainSearch}
use Rattle.hook_env.specs.declared.variables.TheConstants.{LEASE6_VARIABLES}
use Rattle.hook_env.specs.Lists.{some_listed}
use Rattle.hook_env.specs.ValueTexts.{names6_text, servers6_text, value_in}
use Rattle.hook_env.specs.Words.{delegated_word, lease6_word}
use Rattle.hook_env.specs.LeaseVariables.{told, told_if}

-- ---- addresses without their length, prefixes with theirs

abbrev pub address_item : Item6 → List ℕ
address_item item = ip6_text item.net.ip

abbrev pub prefix_item : Item6 → List ℕ
prefix_item item = net6_text item.net

abbrev pub addresses_in : IaKind → List Item6 → List (List ℕ)
addresses_in Na items = map address_item items
addresses_in Pd items = []

abbrev pub prefixes_in : IaKind → List Item6 → List (List ℕ)
prefixes_in Na items = []
prefixes_in Pd items = map prefix_item items

abbrev pub ia_addresses : IaLeaseContent → List (List ℕ)
ia_addresses ia = addresses_in ia.kind ia.items

abbrev pub ia_prefixes : IaLeaseContent → List (List ℕ)
ia_prefixes ia = prefixes_in ia.kind ia.items

-- ---- a DHCPv6 lease

abbrev pub lease6_value : Lease6Content → Lease6Variable → Option (List ℕ)
lease6_value lease Addresses = some_listed (flat_map ia_addresses lease.ias)
lease6_value lease Prefixes = some_listed (flat_map ia_prefixes lease.ias)
lease6_value lease NameServers = option_and_then servers6_text (value_in DNS_SERVERS lease.values)
lease6_value lease DomainSearch = option_and_then names6_text (value_in DOMAIN_LIST lease.values)

abbrev pub lease6_told : Stage → Lease6Content → Lease6Variable → List Variable
lease6_told stage lease variable = told_if stage (lease6_word variable) (lease6_value lease variable)

abbrev pub lease6_variables : Stage → Lease6Content → List Variable
lease6_variables stage lease = flat_map (lease6_told stage lease) LEASE6_VARIABLES

-- ---- an address out of a delegated prefix

abbrev pub delegated_variables : Stage → Net6 → List Variable
delegated_variables stage net = told stage delegated_word (net6_text net) ∷ []
