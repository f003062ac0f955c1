-- What a scope and its parts say, without where they lie in memory.
use Rattle.std.specs.Prelude.{ℕ, List, map, Option, option_map, string_bytes}
use Rattle.std.specs.Global.{Vec}
use Rattle.conf_directives.specs.Contents.{identifier_content, codes_content, ia_content}
use Rattle.conf_values.specs.Texts.{env_content}
use Rattle.conf_scopes.specs.declared.scope.Scope.{Scope}
use Rattle.conf_scopes.specs.declared.statics.Statics.{Statics}
use Rattle.conf_scopes.specs.Scopes.{StaticsContent, ScopeContent}

abbrev pub text_content : Option (Vec ℕ) → Option (List ℕ)
text_content text = option_map (λ t. t.items) text

abbrev pub statics_content : Statics → StaticsContent
statics_content statics = record {
  address = statics.address;
  routers = option_map (λ addresses. addresses.items) statics.routers;
  name_servers = option_map (λ addresses. addresses.items) statics.name_servers;
  domain_name = option_map string_bytes statics.domain_name;
  domain_search = option_map (λ names. map string_bytes names.items) statics.domain_search;
  address6 = statics.address6;
}

abbrev pub scope_content : Scope → ScopeContent
scope_content scope = record {
  flags = scope.flags;
  times = scope.times;
  metric = scope.metric;
  host = text_content scope.host;
  vendor = text_content scope.vendor;
  identifier = option_map identifier_content scope.identifier;
  asked = codes_content scope.asked;
  refused = codes_content scope.refused;
  required = codes_content scope.required;
  statics = statics_content scope.statics;
  ias = map ia_content scope.ias.items;
  env = map env_content scope.env.items;
  blacklist = scope.blacklist.items;
}
