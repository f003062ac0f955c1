-- What directives say, one kind of value at a time.
use Rattle.std.specs.Prelude.{ℕ, List, Option, Some, None}
use Rattle.std.specs.List.{filter_map, last_or}
use Rattle.std.specs.Option.{option_or}
use Rattle.net_types.specs.declared.address.Net4.{Net4}
use Rattle.conf_directives.specs.declared.names.FlagName.{FlagName}
use Rattle.conf_directives.specs.declared.names.SecondsName.{SecondsName}
use Rattle.conf_directives.specs.declared.names.CodeList.{CodeList}
use Rattle.conf_directives.specs.declared.names.CodeList.TheVariants.{Asked, Refused, Required}
use Rattle.conf_directives.specs.declared.names.InterfaceList.{InterfaceList}
use Rattle.conf_directives.specs.declared.names.InterfaceList.TheVariants.{Allowed, Denied}
use Rattle.conf_values.specs.declared.patterns.Pattern.{Pattern}
use Rattle.conf_directives.specs.Contents.{DirectiveContent, Flag, Seconds, Metric, HostName, VendorClass, ClientIs, Codes, Static, Ia, Variable, Blacklist, Interfaces, Script, IdentifierContent, CodesContent, StaticContent, IaContent}
use Rattle.conf_values.specs.Texts.{EnvContent}

-- of single values the last counts
abbrev pub last_of : {X Y : Type 0} → (X → Option Y) → List X → Option Y
last_of value lines = last_or None (filter_map value lines)

-- the block before the global lines
abbrev pub first_said : {X : Type 0} → (block global : Option X) → Option X
first_said block global = option_or block global

-- ---- of one line

abbrev pub flag_said : DirectiveContent → Option FlagName
flag_said (Flag name) = Some name
flag_said _ = None

abbrev pub seconds_said : DirectiveContent → Option (SecondsName × ℕ)
seconds_said (Seconds name seconds) = Some (name, seconds)
seconds_said _ = None

abbrev pub metric_said : DirectiveContent → Option ℕ
metric_said (Metric metric) = Some metric
metric_said _ = None

abbrev pub host_said : DirectiveContent → Option (List ℕ)
host_said (HostName name) = Some name
host_said _ = None

abbrev pub vendor_said : DirectiveContent → Option (List ℕ)
vendor_said (VendorClass class) = Some class
vendor_said _ = None

abbrev pub identifier_said : DirectiveContent → Option IdentifierContent
identifier_said (ClientIs identifier) = Some identifier
identifier_said _ = None

abbrev pub codes_said : CodeList → DirectiveContent → Option CodesContent
codes_said Asked (Codes Asked codes) = Some codes
codes_said Refused (Codes Refused codes) = Some codes
codes_said Required (Codes Required codes) = Some codes
codes_said _ _ = None

abbrev pub static_said : DirectiveContent → Option StaticContent
static_said (Static value) = Some value
static_said _ = None

abbrev pub ia_said : DirectiveContent → Option IaContent
ia_said (Ia ia) = Some ia
ia_said _ = None

abbrev pub env_said : DirectiveContent → Option EnvContent
env_said (Variable env) = Some env
env_said _ = None

abbrev pub blacklist_said : DirectiveContent → Option (List Net4)
blacklist_said (Blacklist nets) = Some nets
blacklist_said _ = None

abbrev pub interfaces_said : InterfaceList → DirectiveContent → Option (List Pattern)
interfaces_said Allowed (Interfaces Allowed patterns) = Some patterns
interfaces_said Denied (Interfaces Denied patterns) = Some patterns
interfaces_said _ _ = None

abbrev pub script_said : DirectiveContent → Option (List ℕ)
script_said (Script path) = Some path
script_said _ = None
