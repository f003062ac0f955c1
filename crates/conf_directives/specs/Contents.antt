-- What lines say, without where it lies in memory.
use Rattle.std.specs.Prelude.{ℕ, Bool, List, [], ◌∷◌, map, Option, Some, None, option_map, string_bytes}
use Rattle.net_types.specs.declared.address.Ip4.{Ip4}
use Rattle.net_types.specs.declared.address.Net4.{Net4}
use Rattle.net_types.specs.declared.address.Net6.{Net6}
use Rattle.v6_options.specs.declared.ia.IaKind.{IaKind}
use Rattle.conf_directives.specs.declared.names.FlagName.{FlagName}
use Rattle.conf_directives.specs.declared.names.SecondsName.{SecondsName}
use Rattle.conf_directives.specs.declared.names.CodeList.{CodeList}
use Rattle.conf_directives.specs.declared.names.InterfaceList.{InterfaceList}
use Rattle.conf_directives.specs.declared.values.Identifier.{Identifier}
use Rattle.conf_directives.specs.declared.values.Identifier.TheVariants as identifiers
use Rattle.conf_directives.specs.declared.values.CodesSaid.{CodesSaid}
use Rattle.conf_directives.specs.declared.values.StaticValue.{StaticValue}
use Rattle.conf_directives.specs.declared.values.StaticValue.TheVariants as statics
use Rattle.conf_directives.specs.declared.values.ShareLine.{ShareLine}
use Rattle.conf_directives.specs.declared.values.IaLine.{IaLine}
use Rattle.conf_values.specs.Texts.{EnvContent, env_content}
use Rattle.conf_values.specs.declared.patterns.Pattern.{Pattern}
use Rattle.conf_directives.specs.declared.values.Directive.{Directive}
use Rattle.conf_directives.specs.declared.values.Directive.TheVariants as directives
use Rattle.conf_directives.specs.declared.values.LineSaid.{LineSaid}

pub data IdentifierContent : Type 0 where
  Hardware : IdentifierContent
  Bytes : List ℕ → IdentifierContent
  Duid : IdentifierContent

pub record CodesContent : Type 0 where
  pub codes : List ℕ
  pub rapid : Bool
  pub words : ℕ

pub data StaticContent : Type 0 where
  Address : Net4 → StaticContent
  Routers : List Ip4 → StaticContent
  NameServers : List Ip4 → StaticContent
  DomainName : List ℕ → StaticContent
  DomainSearch : List (List ℕ) → StaticContent
  Address6 : Net6 → StaticContent

pub record IaContent : Type 0 where
  pub kind : IaKind
  pub iaid : Option ℕ
  pub hint : ℕ
  pub shares : List ShareLine

pub data DirectiveContent : Type 0 where
  Flag : FlagName → DirectiveContent
  Seconds : SecondsName → ℕ → DirectiveContent
  Metric : ℕ → DirectiveContent
  HostName : List ℕ → DirectiveContent
  VendorClass : List ℕ → DirectiveContent
  ClientIs : IdentifierContent → DirectiveContent
  Codes : CodeList → CodesContent → DirectiveContent
  Static : StaticContent → DirectiveContent
  Ia : IaContent → DirectiveContent
  Variable : EnvContent → DirectiveContent
  Blacklist : List Net4 → DirectiveContent
  Interfaces : InterfaceList → List Pattern → DirectiveContent
  Script : List ℕ → DirectiveContent

pub record SaidContent : Type 0 where
  pub directive : Option DirectiveContent
  pub notices : List (List ℕ)

-- a line that says a directive alone
abbrev pub taken : DirectiveContent → SaidContent
taken directive = record { directive = Some directive; notices = [] }

-- a line of which a word is noticed alone
abbrev pub noticed : List ℕ → SaidContent
noticed word = record { directive = None; notices = word ∷ [] }

-- ---- the contents of the types

abbrev pub identifier_content : Identifier → IdentifierContent
identifier_content identifiers.Hardware = Hardware
identifier_content (identifiers.Bytes bytes) = Bytes bytes.items
identifier_content identifiers.Duid = Duid

abbrev pub codes_content : CodesSaid → CodesContent
codes_content said = record { codes = said.codes.items; rapid = said.rapid; words = said.words }

abbrev pub static_content : StaticValue → StaticContent
static_content (statics.Address net) = Address net
static_content (statics.Routers addresses) = Routers addresses.items
static_content (statics.NameServers addresses) = NameServers addresses.items
static_content (statics.DomainName name) = DomainName (string_bytes name)
static_content (statics.DomainSearch names) = DomainSearch (map string_bytes names.items)
static_content (statics.Address6 net) = Address6 net

abbrev pub ia_content : IaLine → IaContent
ia_content ia = record { kind = ia.kind; iaid = ia.iaid; hint = ia.hint; shares = ia.shares.items }

abbrev pub directive_content : Directive → DirectiveContent
directive_content (directives.Flag name) = Flag name
directive_content (directives.Seconds name seconds) = Seconds name seconds
directive_content (directives.Metric metric) = Metric metric
directive_content (directives.HostName name) = HostName name.items
directive_content (directives.VendorClass class) = VendorClass class.items
directive_content (directives.Identifier identifier) = ClientIs (identifier_content identifier)
directive_content (directives.Codes codes said) = Codes codes (codes_content said)
directive_content (directives.Static value) = Static (static_content value)
directive_content (directives.Ia ia) = Ia (ia_content ia)
directive_content (directives.Env env) = Variable (env_content env)
directive_content (directives.Blacklist nets) = Blacklist nets.items
directive_content (directives.Interfaces interfaces patterns) = Interfaces interfaces patterns.items
directive_content (directives.Script path) = Script (string_bytes path)

abbrev pub said_content : LineSaid → SaidContent
said_content said =
    record {
      directive = option_map directive_content said.directive;
      notices = map (λ word. word.now) said.notices.items;
    }
