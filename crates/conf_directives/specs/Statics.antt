-- Static values: KEY=VALUE, up to the end of the line.
use Rattle.std.specs.Prelude.{ℕ, Bool, ◌&&◌, List, [], ◌∷◌, Option, Some, None, option_map, codes, if◌then◌else◌}
use Rattle.std.specs.List.{list_all}
use Rattle.net_types.specs.AddressText.{ip4_at}
use Rattle.net_types.specs.Cutting.{◌>>=◌, split_at_byte}
use Rattle.net_types.specs.Ip6Text.{net6_at}
use Rattle.conf_words.specs.Marks.{is_of_word}
use Rattle.conf_directives.specs.declared.statics.StaticName.{StaticName}
use Rattle.conf_directives.specs.declared.statics.StaticName.TheVariants as names
use Rattle.conf_values.specs.Words.{is_some_text, members_of, one_or_more, only}
use Rattle.conf_directives.specs.Names.{named}
use Rattle.conf_values.specs.Nets.{own_net}
use Rattle.conf_values.specs.Texts.{domain_name, domain_names, equals_sign}
use Rattle.conf_directives.specs.Contents.{StaticContent, Address, Routers, NameServers, DomainName, DomainSearch, Address6, SaidContent, noticed, taken}
use Rattle.conf_directives.specs.Contents as contents

abbrev pub static_rows : List (List ℕ × StaticName)
static_rows =
    (codes "ip_address", names.Address)
    ∷ (codes "routers", names.Routers)
    ∷ (codes "domain_name_servers", names.NameServers)
    ∷ (codes "domain_name", names.DomainName)
    ∷ (codes "domain_search", names.DomainSearch)
    ∷ (codes "ip6_address", names.Address6)
    ∷ []

abbrev pub only_name : List (List ℕ) → Option (List ℕ)
only_name members = only members >>= domain_name

-- the members of a value
abbrev pub value_of : StaticName → List (List ℕ) → Option StaticContent
value_of names.Address members = option_map Address (only members >>= own_net)
value_of names.Routers members = option_map Routers (one_or_more ip4_at members)
value_of names.NameServers members = option_map NameServers (one_or_more ip4_at members)
value_of names.DomainName members = option_map DomainName (only_name members)
value_of names.DomainSearch members = option_map DomainSearch (domain_names members)
value_of names.Address6 members = option_map Address6 (only members >>= net6_at)

abbrev pub named_value : (key value : List ℕ) → Option StaticName → Option SaidContent
named_value key value None = Some (noticed key)
named_value key value (Some name) =
    option_map (λ said. taken (contents.Static said)) (value_of name (members_of value))

-- a key isn't empty, and holds no blank
abbrev pub is_key : List ℕ → Bool
is_key key = is_some_text key && list_all is_of_word key

abbrev pub static_by : List ℕ × List ℕ → Option SaidContent
static_by parts = if is_key parts.0 then named_value parts.0 parts.1 (named static_rows parts.0) else None

-- up to the first equals sign, the key
abbrev pub static_said : List ℕ → Option SaidContent
static_said text = split_at_byte equals_sign text >>= static_by
