-- What one line more makes of a scope, and how much is said.
use Rattle.std.specs.Prelude.{ℕ, ◌+◌, ◌<◌, ◌^◌, ◌||◌, List, [], ◌∷◌, ◌++◌, length, Option, Some, None}
use Rattle.std.specs.Option.{option_or}
use Rattle.conf_directives.specs.declared.names.CodeList.TheVariants.{Asked, Refused, Required}
use Rattle.conf_directives.specs.Contents.{DirectiveContent, Codes, CodesContent, StaticContent, Address, Routers, NameServers, DomainName, DomainSearch, Address6}
use Rattle.conf_scopes.specs.declared.counting.Counts.{Counts}
use Rattle.conf_scopes.specs.Flags.{flags_with}
use Rattle.conf_scopes.specs.Scopes.{StaticsContent, ScopeContent}
use Rattle.conf_scopes.specs.Times.{times_with}
use Rattle.conf_scopes.specs.Values.{flag_said, seconds_said, metric_said, host_said, vendor_said, identifier_said, codes_said, static_said, ia_said, env_said, blacklist_said}

-- ---- a scope with what one line more says

abbrev pub both_codes : CodesContent → CodesContent → CodesContent
both_codes one other =
    record { codes = one.codes ++ other.codes; rapid = one.rapid || other.rapid; words = one.words + other.words }

abbrev pub codes_with : CodesContent → Option CodesContent → CodesContent
codes_with codes None = codes
codes_with codes (Some more) = both_codes codes more

abbrev pub with_static : StaticContent → StaticsContent → StaticsContent
with_static (Address net) values = record values { address = Some net }
with_static (Routers addresses) values = record values { routers = Some addresses }
with_static (NameServers addresses) values = record values { name_servers = Some addresses }
with_static (DomainName name) values = record values { domain_name = Some name }
with_static (DomainSearch names) values = record values { domain_search = Some names }
with_static (Address6 net) values = record values { address6 = Some net }

abbrev pub statics_with : StaticsContent → Option StaticContent → StaticsContent
statics_with values None = values
statics_with values (Some value) = with_static value values

abbrev pub list_with : {X : Type 0} → List X → Option X → List X
list_with list None = list
list_with list (Some item) = list ++ item ∷ []

abbrev pub list_on : {X : Type 0} → List X → Option (List X) → List X
list_on list None = list
list_on list (Some items) = list ++ items

unfoldable pub scope_with : ScopeContent → DirectiveContent → ScopeContent
scope_with scope said = record {
  flags = flags_with scope.flags (flag_said said);
  times = times_with scope.times (seconds_said said);
  metric = option_or (metric_said said) scope.metric;
  host = option_or (host_said said) scope.host;
  vendor = option_or (vendor_said said) scope.vendor;
  identifier = option_or (identifier_said said) scope.identifier;
  asked = codes_with scope.asked (codes_said Asked said);
  refused = codes_with scope.refused (codes_said Refused said);
  required = codes_with scope.required (codes_said Required said);
  statics = statics_with scope.statics (static_said said);
  ias = list_with scope.ias (ia_said said);
  env = list_with scope.env (env_said said);
  blacklist = list_on scope.blacklist (blacklist_said said);
}

-- ---- how much is said

-- the words of options that are counted
abbrev pub FitsWords : ScopeContent → DirectiveContent → Type 0
FitsWords scope (Codes Asked said) = scope.asked.words + said.words < 2 ^ 64
FitsWords scope (Codes Refused said) = scope.refused.words + said.words < 2 ^ 64
FitsWords scope (Codes Required said) = scope.required.words + said.words < 2 ^ 64
FitsWords scope _ = Unit {0}

abbrev pub scope_counts : ScopeContent → Counts
scope_counts scope = record {
  asked = scope.asked.words;
  refused = scope.refused.words;
  required = scope.required.words;
  ias = length scope.ias;
  env = length scope.env;
  blacklist = length scope.blacklist;
  allowed = 0;
  denied = 0;
}

abbrev pub both_counts : Counts → Counts → Counts
both_counts one other = record {
  asked = one.asked + other.asked;
  refused = one.refused + other.refused;
  required = one.required + other.required;
  ias = one.ias + other.ias;
  env = one.env + other.env;
  blacklist = one.blacklist + other.blacklist;
  allowed = one.allowed + other.allowed;
  denied = one.denied + other.denied;
}
