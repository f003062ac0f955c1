-- Which interfaces are managed, and what is said of an interface.
use Rattle.std.specs.Prelude.{Bool, true, not, ◌&&◌, ◌||◌, ◌==◌, nat_eq, List, [], length, find, Option, option_map, unwrap_or}
use Rattle.std.specs.List.{list_any, starts_with}
use Rattle.net_types.specs.declared.interface.Name.{Name}
use Rattle.net_types.specs.declared.interface.IfSpec.{IfSpec}
use Rattle.net_types.specs.NameText.{name_text}
use Rattle.conf_values.specs.declared.patterns.Pattern.{Pattern}
use Rattle.conf_values.specs.declared.patterns.Pattern.TheVariants.{Exactly, Any, Beginning}
use Rattle.conf_text.specs.Places.{is_named}
use Rattle.conf_scopes.specs.Scopes.{ScopeContent, scope_of}
use Rattle.conf_text.specs.Configurations.{BlockContent, Configuration}

-- ---- which are managed

abbrev pub is_meant : Name → Pattern → Bool
is_meant name (Exactly other) = is_named name other
is_meant name Any = true
is_meant name (Beginning front) = starts_with nat_eq (name_text name) (name_text front)

-- those that aren't denied, and where some are allowed, these alone
abbrev pub is_managed : Configuration → Name → Bool
is_managed conf name =
    not (list_any (is_meant name) conf.denied)
    && (length conf.allowed == 0 || list_any (is_meant name) conf.allowed)

-- ---- what is said of one

abbrev pub spec_named : List IfSpec → Name → Option IfSpec
spec_named specs name = find (λ spec. is_named name spec.name) specs

-- an interface without a block has one that says nothing
abbrev pub scope_for : List BlockContent → Name → ScopeContent
scope_for blocks name =
    unwrap_or (option_map (λ block. block.scope) (find (λ block. is_named name block.name) blocks)) (scope_of [])
