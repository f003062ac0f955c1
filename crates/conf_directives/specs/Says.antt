-- What a line says: a directive, words that are only noticed, or nothing, where an argument is missing or out of its
-- form.
use Rattle.std.specs.Prelude.{◌≡◌, ◌⊎◌, ℕ, ◌^◌, List, [], ◌∷◌, Option, Some, None, option_map}
use Rattle.net_types.specs.declared.interface.Name.{Name}
use Rattle.net_types.specs.Cutting.{◌>>=◌}
use Rattle.net_types.specs.NameText.{name_at}
use Rattle.net_types.specs.Numbers.{number_at}
use Rattle.v6_options.specs.declared.ia.IaKind.{IaKind}
use Rattle.v6_options.specs.declared.ia.IaKind.TheVariants.{Na, Pd}
use Rattle.conf_words.specs.Arguments.{Said, IsWholeArgument}
use Rattle.conf_directives.specs.declared.names.ValueName.{ValueName}
use Rattle.conf_directives.specs.declared.names.ValueName.TheVariants as values
use Rattle.conf_directives.specs.declared.names.DirectiveName.{DirectiveName}
use Rattle.conf_directives.specs.declared.names.DirectiveName.TheVariants as names
use Rattle.conf_values.specs.declared.texts.TheConstants.{TEXT_LIMIT}
use Rattle.conf_directives.specs.declared.valued.TheConstants.{SECONDS_LIMIT}
use Rattle.conf_values.specs.Words.{HasArguments, one_or_more, only}
use Rattle.conf_directives.specs.Names.{directive_at}
use Rattle.conf_directives.specs.Contents as contents
use Rattle.conf_directives.specs.Contents.{DirectiveContent, IdentifierContent, SaidContent, noticed, taken}
use Rattle.conf_values.specs.Texts.{domain_name, printed, variable}
use Rattle.conf_values.specs.Identifiers.{identifier}
use Rattle.conf_values.specs.Patterns.{pattern}
use Rattle.conf_values.specs.Nets.{server_net}
use Rattle.conf_directives.specs.Codes.{codes_said}
use Rattle.conf_directives.specs.Shares.{addresses, prefixes}
use Rattle.conf_directives.specs.Statics.{static_said}

-- ---- directives of given forms

-- without argument it isn't sent
abbrev pub vendor_class : List (List ℕ) → Option (List ℕ)
vendor_class [] = Some []
vendor_class (text ∷ []) = printed TEXT_LIMIT text
vendor_class _ = None

-- without argument the hardware address
abbrev pub client_id : List (List ℕ) → Option IdentifierContent
client_id [] = Some contents.Hardware
client_id (text ∷ []) = option_map contents.Bytes (identifier text)
client_id _ = None

abbrev pub value_said : ValueName → List (List ℕ) → Option DirectiveContent
value_said (values.Seconds name) arguments =
    option_map (contents.Seconds name) (only arguments >>= number_at SECONDS_LIMIT)
value_said values.Metric arguments = option_map contents.Metric (only arguments >>= number_at (2 ^ 32))
value_said values.VendorClass arguments = option_map contents.VendorClass (vendor_class arguments)
value_said values.ClientId arguments = option_map contents.ClientIs (client_id arguments)
value_said values.Env arguments = option_map contents.Variable (only arguments >>= variable)
value_said values.Blacklist arguments = option_map contents.Blacklist (one_or_more server_net arguments)
value_said (values.Interfaces list) arguments = option_map (contents.Interfaces list) (one_or_more pattern arguments)
value_said values.Script arguments = option_map contents.Script (only arguments >>= printed TEXT_LIMIT)

-- ---- directives that may be noticed

-- without argument it says nothing
abbrev pub host_said : (word : List ℕ) → List (List ℕ) → Option SaidContent
host_said word [] = Some (noticed word)
host_said word (name ∷ []) = option_map (λ name. taken (contents.HostName name)) (domain_name name)
host_said word _ = None

abbrev pub ia_said : IaKind → List (List ℕ) → Option SaidContent
ia_said Na arguments = option_map (λ ia. taken (contents.Ia ia)) (addresses arguments)
ia_said Pd arguments = prefixes arguments

-- ---- lines

-- what the arguments say
pub record ByArguments {X : Type 0} (said : List (List ℕ) → X) (about : List ℕ) (answer : X) : Type 0 where
  pub arguments : List (List ℕ)
  pub follow : HasArguments about arguments
  pub says : answer ≡ said arguments

-- the rest of the line is one argument; where something follows a quoted one, it is none
abbrev pub IsStatic : (about : List ℕ) → Option SaidContent → Type 0
IsStatic about answer =
    ((argument : Said) × IsWholeArgument about argument × (answer ≡ static_said argument.text))
    ⊎ (((argument : Said) → ¬ IsWholeArgument about argument) × (answer ≡ None))

abbrev pub SaysNamed : Option DirectiveName → (word about : List ℕ) → Option SaidContent → Type 0
SaysNamed None word about answer = answer ≡ Some (noticed word)
SaysNamed (Some (names.Flag name)) word about answer = answer ≡ Some (taken (contents.Flag name))
SaysNamed (Some names.Duid) word about answer = answer ≡ Some (taken (contents.ClientIs contents.Duid))
SaysNamed (Some names.Static) word about answer = IsStatic about answer
SaysNamed (Some names.HostName) word about answer = ByArguments (host_said word) about answer
SaysNamed (Some (names.Codes list)) word about answer = ByArguments (codes_said list) about answer
SaysNamed (Some (names.Ia kind)) word about answer = ByArguments (ia_said kind) about answer
SaysNamed (Some (names.Value name)) word about answer =
    ByArguments (λ arguments. option_map taken (value_said name arguments)) about answer

-- a line that isn't a heading says this by its first word and what follows that
abbrev pub Says : (word about : List ℕ) → Option SaidContent → Type 0
Says word about answer = SaysNamed (directive_at word) word about answer

-- the interface that a block is of
abbrev pub IsOfInterface : (about : List ℕ) → Option Name → Type 0
IsOfInterface about name = ByArguments (λ arguments. only arguments >>= name_at) about name
