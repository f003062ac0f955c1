-- The directives of a configuration, by their first words.
use Rattle.std.specs.Prelude.{ℕ, List, [], ◌∷◌, Option, Some, None, codes, bytes_eq, if◌then◌else◌}
use Rattle.v6_options.specs.declared.ia.IaKind.TheVariants.{Na, Pd}
use Rattle.conf_directives.specs.declared.names.HeadingName.{HeadingName}
use Rattle.conf_directives.specs.declared.names.HeadingName.TheVariants as headings
use Rattle.conf_directives.specs.declared.names.FlagName.TheVariants.{Ipv4Only, Ipv6Only, NoDhcp, NoDhcp6, NoIpv4ll, NoArp, NoDelay, Broadcast, Release, Persistent}
use Rattle.conf_directives.specs.declared.names.SecondsName.TheVariants.{Timeout, Reboot}
use Rattle.conf_directives.specs.declared.names.CodeList.TheVariants.{Asked, Refused, Required}
use Rattle.conf_directives.specs.declared.names.InterfaceList.TheVariants.{Allowed, Denied}
use Rattle.conf_directives.specs.declared.names.ValueName.TheVariants as values
use Rattle.conf_directives.specs.declared.names.DirectiveName.{DirectiveName}
use Rattle.conf_directives.specs.declared.names.DirectiveName.TheVariants as directives

-- what the first row of this word says
abbrev pub named : {X : Type 0} → List (List ℕ × X) → List ℕ → Option X
named [] word = None
named (row ∷ rows) word = if bytes_eq row.0 word then Some row.1 else named rows word

abbrev pub heading_rows : List (List ℕ × HeadingName)
heading_rows =
    (codes "interface", headings.Interface)
    ∷ (codes "profile", headings.Profile)
    ∷ (codes "ssid", headings.Ssid)
    ∷ []

abbrev pub directive_rows : List (List ℕ × DirectiveName)
directive_rows =
    (codes "ipv4only", directives.Flag Ipv4Only)
    ∷ (codes "ipv6only", directives.Flag Ipv6Only)
    ∷ (codes "nodhcp", directives.Flag NoDhcp)
    ∷ (codes "nodhcp6", directives.Flag NoDhcp6)
    ∷ (codes "noipv4ll", directives.Flag NoIpv4ll)
    ∷ (codes "noarp", directives.Flag NoArp)
    ∷ (codes "nodelay", directives.Flag NoDelay)
    ∷ (codes "broadcast", directives.Flag Broadcast)
    ∷ (codes "release", directives.Flag Release)
    ∷ (codes "persistent", directives.Flag Persistent)
    ∷ (codes "timeout", directives.Value (values.Seconds Timeout))
    ∷ (codes "reboot", directives.Value (values.Seconds Reboot))
    ∷ (codes "metric", directives.Value values.Metric)
    ∷ (codes "hostname", directives.HostName)
    ∷ (codes "vendorclassid", directives.Value values.VendorClass)
    ∷ (codes "clientid", directives.Value values.ClientId)
    ∷ (codes "duid", directives.Duid)
    ∷ (codes "option", directives.Codes Asked)
    ∷ (codes "nooption", directives.Codes Refused)
    ∷ (codes "require", directives.Codes Required)
    ∷ (codes "static", directives.Static)
    ∷ (codes "ia_na", directives.Ia Na)
    ∷ (codes "ia_pd", directives.Ia Pd)
    ∷ (codes "env", directives.Value values.Env)
    ∷ (codes "blacklist", directives.Value values.Blacklist)
    ∷ (codes "allowinterfaces", directives.Value (values.Interfaces Allowed))
    ∷ (codes "denyinterfaces", directives.Value (values.Interfaces Denied))
    ∷ (codes "script", directives.Value values.Script)
    ∷ []

unfoldable pub heading_at : List ℕ → Option HeadingName
heading_at word = named heading_rows word

unfoldable pub directive_at : List ℕ → Option DirectiveName
directive_at word = named directive_rows word
