-- Who gets what of the prefixes that are delegated to an interface (RFC 3633, section 12.1).
use Rattle.std.specs.Prelude.{ℕ, ◌+◌, ◌-◌, ◌^◌, min, not, ◌&&◌, List, [], ◌∷◌, ◌++◌, filter_map, flat_map, Option, Some, None, option_map, option_and_then, unwrap_or, if◌then◌else◌}
use Rattle.std.specs.Option.{option_or}
use Rattle.net_types.specs.declared.interface.Name.{Name}
use Rattle.net_types.specs.declared.interface.IfSpec.{IfSpec}
use Rattle.prefix_share.specs.declared.share.Share.{Share}
use Rattle.prefix_share.specs.Rules.{is_plan}
use Rattle.settings.specs.declared.dhcp6_conf.ShareConf.{ShareConf}
use Rattle.settings.specs.declared.outlet.Outlet.{Outlet}
use Rattle.conf_directives.specs.declared.values.ShareLine.{ShareLine}
use Rattle.conf_directives.specs.Contents.{IaContent}
use Rattle.conf_text.specs.declared.sharing.TheConstants.{METRIC_BASE}
use Rattle.conf_text.specs.Associations.{Association, associations}
use Rattle.conf_text.specs.Choosing.{is_managed, scope_for, spec_named}
use Rattle.conf_text.specs.Configurations.{Configuration}
use Rattle.conf_text.specs.Places.{is_named}
use Rattle.conf_scopes.specs.Values.{first_said}

-- ---- which shares are taken

-- an SLA id that isn't written is the index of the share's interface
abbrev pub sla_of : List IfSpec → ShareLine → Option ℕ
sla_of specs line = option_or line.sla (option_map (λ spec. spec.index.number) (spec_named specs line.name))

-- none where it isn't written, and there is no such interface
abbrev pub share_of : List IfSpec → (hint : ℕ) → ShareLine → Option Share
share_of specs hint line =
    option_map (λ sla. record { name = line.name; sla = sla; len = line.len; hint = hint }) (sla_of specs line)

-- one more, where the rules let it stand after those that are taken
abbrev pub taken_with : List Share → Share → List Share
taken_with taken share = if is_plan (taken ++ share ∷ []) then taken ++ share ∷ [] else taken

-- these, and those that are taken after them in their order
abbrev pub taken_after : (taken shares : List Share) → List Share
taken_after taken [] = taken
taken_after taken (share ∷ shares) = taken_after (taken_with taken share) shares

abbrev pub shares_taken : List IfSpec → (hint : ℕ) → List ShareLine → List Share
shares_taken specs hint lines = taken_after [] (filter_map (share_of specs hint) lines)

-- ---- what they give

-- the metric that is said, else 1000 and the index, as far as there are metrics
abbrev pub metric_for : Configuration → IfSpec → ℕ
metric_for conf spec =
    unwrap_or (first_said (scope_for conf.blocks spec.name).metric conf.global.metric)
    (min (METRIC_BASE + spec.index.number) (2 ^ 32 - 1))

abbrev pub outlet_of : Configuration → IfSpec → Outlet
outlet_of conf spec = record { iface = spec.index; metric = metric_for conf spec }

-- rows of a share lead to an interface that is managed, and isn't the upstream one
abbrev pub outlet_by : Configuration → (upstream : Name) → IfSpec → Option Outlet
outlet_by conf upstream spec =
    if is_managed conf spec.name && not (is_named upstream spec.name) then Some (outlet_of conf spec) else None

abbrev pub share_with : (iaid : ℕ) → Share → Outlet → ShareConf
share_with iaid share outlet = record { iaid = iaid; share = share; outlet = outlet }

-- one that is taken gives nothing where it leads nowhere
abbrev pub given_by : Configuration → List IfSpec → (upstream : Name) → (iaid : ℕ) → Share → Option ShareConf
given_by conf specs upstream iaid share =
    option_map (share_with iaid share) (option_and_then (outlet_by conf upstream) (spec_named specs share.name))

abbrev pub shared_by : Configuration → List IfSpec → (upstream : Name) → Association → List ShareConf
shared_by conf specs upstream one =
    filter_map (given_by conf specs upstream one.ia.iaid) (shares_taken specs one.ia.hint one.shares)

-- what lines of an interface have shared of its prefixes
abbrev pub shares_of : Configuration → List IfSpec → IfSpec → (lines : List IaContent) → List ShareConf
shares_of conf specs spec lines = flat_map (shared_by conf specs spec.name) (associations spec.index.number lines)
