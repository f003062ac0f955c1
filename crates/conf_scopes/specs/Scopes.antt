-- What the lines of a scope say together: those in front of all blocks, or those in the blocks of one interface.
use Rattle.std.specs.Prelude.{ℕ, List, Option, Some, None}
use Rattle.std.specs.List.{filter_map, flat_map, list_any, sum_by}
use Rattle.net_types.specs.declared.address.Ip4.{Ip4}
use Rattle.net_types.specs.declared.address.Net4.{Net4}
use Rattle.net_types.specs.declared.address.Net6.{Net6}
use Rattle.conf_directives.specs.declared.names.CodeList.TheVariants.{Asked, Refused, Required}
use Rattle.conf_directives.specs.Contents.{DirectiveContent, IdentifierContent, CodesContent, StaticContent, Address, Routers, NameServers, DomainName, DomainSearch, Address6, IaContent}
use Rattle.conf_values.specs.Texts.{EnvContent}
use Rattle.settings.specs.declared.flags.Flags.{Flags}
use Rattle.conf_scopes.specs.declared.times.TimesSaid.{TimesSaid}
use Rattle.conf_scopes.specs.Flags.{flags_of}
use Rattle.conf_scopes.specs.Times.{times_of}
use Rattle.conf_scopes.specs.Values.{last_of, flag_said, seconds_said, metric_said, host_said, vendor_said, identifier_said, codes_said, static_said, ia_said, env_said, blacklist_said}

pub record StaticsContent : Type 0 where
  pub address : Option Net4
  pub routers : Option (List Ip4)
  pub name_servers : Option (List Ip4)
  pub domain_name : Option (List ℕ)
  pub domain_search : Option (List (List ℕ))
  pub address6 : Option Net6

pub record ScopeContent : Type 0 where
  pub flags : Flags
  pub times : TimesSaid
  pub metric : Option ℕ
  pub host : Option (List ℕ)
  pub vendor : Option (List ℕ)
  pub identifier : Option IdentifierContent
  pub asked : CodesContent
  pub refused : CodesContent
  pub required : CodesContent
  pub statics : StaticsContent
  pub ias : List IaContent
  pub env : List EnvContent
  pub blacklist : List Net4

abbrev pub codes_together : List CodesContent → CodesContent
codes_together lines = record {
  codes = flat_map (λ said. said.codes) lines;
  rapid = list_any (λ said. said.rapid) lines;
  words = sum_by (λ said. said.words) lines;
}

abbrev pub address_in : StaticContent → Option Net4
address_in (Address net) = Some net
address_in _ = None

abbrev pub routers_in : StaticContent → Option (List Ip4)
routers_in (Routers addresses) = Some addresses
routers_in _ = None

abbrev pub name_servers_in : StaticContent → Option (List Ip4)
name_servers_in (NameServers addresses) = Some addresses
name_servers_in _ = None

abbrev pub domain_name_in : StaticContent → Option (List ℕ)
domain_name_in (DomainName name) = Some name
domain_name_in _ = None

abbrev pub domain_search_in : StaticContent → Option (List (List ℕ))
domain_search_in (DomainSearch names) = Some names
domain_search_in _ = None

abbrev pub address6_in : StaticContent → Option Net6
address6_in (Address6 net) = Some net
address6_in _ = None

abbrev pub statics_together : List StaticContent → StaticsContent
statics_together values = record {
  address = last_of address_in values;
  routers = last_of routers_in values;
  name_servers = last_of name_servers_in values;
  domain_name = last_of domain_name_in values;
  domain_search = last_of domain_search_in values;
  address6 = last_of address6_in values;
}

-- lists go on from line to line
abbrev pub scope_of : List DirectiveContent → ScopeContent
scope_of lines = record {
  flags = flags_of (filter_map flag_said lines);
  times = times_of (filter_map seconds_said lines);
  metric = last_of metric_said lines;
  host = last_of host_said lines;
  vendor = last_of vendor_said lines;
  identifier = last_of identifier_said lines;
  asked = codes_together (filter_map (codes_said Asked) lines);
  refused = codes_together (filter_map (codes_said Refused) lines);
  required = codes_together (filter_map (codes_said Required) lines);
  statics = statics_together (filter_map static_said lines);
  ias = filter_map ia_said lines;
  env = filter_map env_said lines;
  blacklist = flat_map (λ nets. nets) (filter_map blacklist_said lines);
}
