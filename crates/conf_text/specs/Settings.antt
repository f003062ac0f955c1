-- Which interfaces are managed, and what is in force for each of them.
use Rattle.std.specs.Prelude.{ℕ, Bool, false, ◌||◌, ◌==◌, List, [], ◌∷◌, ◌++◌, length, map, Option, Some, None, option_map, option_and_then, unwrap_or, codes, bytes_eq, if◌then◌else◌}
use Rattle.std.specs.List.{filter_map}
use Rattle.net_types.specs.declared.address.Ip4.{Ip4}
use Rattle.net_types.specs.declared.interface.IfSpec.{IfSpec}
use Rattle.world.specs.HookCalls.{Variable}
use Rattle.settings.specs.declared.interfaces.IfConf.{IfConf}
use Rattle.settings.specs.declared.interfaces.Managed.{Managed}
use Rattle.settings.specs.Dhcp4Settings.{Dhcp4Settings}
use Rattle.settings.specs.Dhcp4Settings as settings
use Rattle.settings.specs.Dhcp6Settings.{Dhcp6Settings}
use Rattle.settings.specs.Flags.{either}
use Rattle.settings.specs.HookSettings.{HookSettings, ScriptContent, Nothing, Default, At}
use Rattle.settings.specs.ResolverSettings.{ResolverSettings}
use Rattle.conf_directives.specs.Contents.{IdentifierContent, Hardware, Bytes, Duid}
use Rattle.conf_values.specs.Texts.{EnvContent}
use Rattle.conf_text.specs.Associations.{ias_of}
use Rattle.conf_scopes.specs.Scopes.{ScopeContent, StaticsContent}
use Rattle.conf_text.specs.Choosing.{is_managed, scope_for}
use Rattle.conf_text.specs.Configurations.{Configuration}
use Rattle.conf_text.specs.Shares.{shares_of}
use Rattle.conf_scopes.specs.Times.{times_in_force}
use Rattle.conf_scopes.specs.Values.{first_said}

-- ---- what is in force

abbrev pub list_or_none : {X : Type 0} → (block global : Option (List X)) → List X
list_or_none block global = unwrap_or (first_said block global) []

-- the hardware address where no line says it
abbrev pub identifier_or_hardware : Option IdentifierContent → settings.IdentifierContent
identifier_or_hardware None = settings.Hardware
identifier_or_hardware (Some Hardware) = settings.Hardware
identifier_or_hardware (Some (Bytes bytes)) = settings.Bytes bytes
identifier_or_hardware (Some Duid) = settings.Duid

abbrev pub first_router : List Ip4 → Option Ip4
first_router [] = None
first_router (router ∷ routers) = Some router

-- lists go on after the global ones
abbrev pub dhcp4_in_force : (global block : ScopeContent) → Dhcp4Settings
dhcp4_in_force global block = record {
  host = list_or_none block.host global.host;
  vendor = list_or_none block.vendor global.vendor;
  identifier = identifier_or_hardware (first_said block.identifier global.identifier);
  asked = global.asked.codes ++ block.asked.codes;
  refused = global.refused.codes ++ block.refused.codes;
  required = global.required.codes ++ block.required.codes;
  blacklist = global.blacklist ++ block.blacklist;
}

-- `option rapid_commit` of either
abbrev pub dhcp6_in_force : Configuration → List IfSpec → IfSpec → (block : ScopeContent) → Dhcp6Settings
dhcp6_in_force conf specs spec block = record {
  rapid = conf.global.asked.rapid || block.asked.rapid;
  ias = ias_of spec.index.number (conf.global.ias ++ block.ias);
  shares = shares_of conf specs spec (conf.global.ias ++ block.ias);
}

-- lists of `static` don't go on
abbrev pub resolver_in_force : (global block : StaticsContent) → ResolverSettings
resolver_in_force global block = record {
  servers = list_or_none block.name_servers global.name_servers;
  search = list_or_none block.domain_search global.domain_search;
  domain = list_or_none block.domain_name global.domain_name;
}

-- `/dev/null` is nothing, and no path the device's own script
abbrev pub no_hooks : List ℕ
no_hooks = codes "/dev/null"

abbrev pub script_of : (path : List ℕ) → ScriptContent
script_of path =
    if bytes_eq path no_hooks then Nothing
    else if length path == 0 then Default
    else At path

abbrev pub script_in_force : Option (List ℕ) → ScriptContent
script_in_force path = unwrap_or (option_map script_of path) Default

abbrev pub variable_said : EnvContent → Variable
variable_said env = record { name = env.name; value = env.value }

abbrev pub hooks_in_force : (script : Option (List ℕ)) → (global block : ScopeContent) → HookSettings
hooks_in_force script global block =
    record { script = script_in_force script; env = map variable_said (global.env ++ block.env) }

-- single values are the block's, else the global ones; flags are on in either
abbrev pub in_force : Dhcp6Settings → HookSettings → (global block : ScopeContent) → IfConf
in_force dhcp6 hooks global block = record {
  flags = either global.flags block.flags;
  times = times_in_force global.times block.times;
  metric = first_said block.metric global.metric;
  address = first_said block.statics.address global.statics.address;
  address6 = first_said block.statics.address6 global.statics.address6;
  router = option_and_then first_router (first_said block.statics.routers global.statics.routers);
  dhcp4 = dhcp4_in_force global block;
  dhcp6 = dhcp6;
  resolver = resolver_in_force global.statics block.statics;
  hooks = hooks;
}

-- for the interface that has this block, among all of them
abbrev pub in_force_among : Configuration → (specs : List IfSpec) → IfSpec → (block : ScopeContent) → IfConf
in_force_among conf specs spec block =
    in_force (dhcp6_in_force conf specs spec block) (hooks_in_force conf.script conf.global block) conf.global block

-- what is in force for an interface, whether or not it is managed; `specs` are all of them
abbrev pub settings_for : Configuration → (specs : List IfSpec) → IfSpec → IfConf
settings_for conf specs spec = in_force_among conf specs spec (scope_for conf.blocks spec.name)

abbrev pub settings_of : Configuration → (specs : List IfSpec) → IfSpec → Option IfConf
settings_of conf specs spec = if is_managed conf spec.name then Some (settings_for conf specs spec) else None

abbrev pub managed_with : IfSpec → Option IfConf → Option Managed
managed_with spec settings = option_map (λ conf. record { spec = spec; conf = conf }) settings

-- some of all interfaces, where they are managed, in their order
abbrev pub managed_among : Configuration → (specs these : List IfSpec) → List Managed
managed_among conf specs these = filter_map (λ spec. managed_with spec (settings_of conf specs spec)) these

abbrev pub managed_of : Configuration → List IfSpec → List Managed
managed_of conf specs = managed_among conf specs specs

-- ---- hooks

abbrev pub is_path_of_none : Option (List ℕ) → Bool
is_path_of_none None = false
is_path_of_none (Some path) = bytes_eq path no_hooks

-- `script /dev/null` turns hooks off, where it is the last such line
abbrev pub turns_hooks_off : Configuration → Bool
turns_hooks_off conf = is_path_of_none conf.script
