-- Directives of one word, which are on where a line has them.
use Rattle.std.specs.Prelude.{Bool, true, false, List, Option, Some, None}
use Rattle.std.specs.List.{list_any}
use Rattle.conf_directives.specs.declared.names.FlagName.{FlagName}
use Rattle.conf_directives.specs.declared.names.FlagName.TheVariants.{Ipv4Only, Ipv6Only, NoDhcp, NoDhcp6, NoIpv4ll, NoArp, NoDelay, Broadcast, Release, Persistent}
use Rattle.settings.specs.declared.flags.Flags.{Flags}

abbrev pub is_flag : FlagName → FlagName → Bool
is_flag Ipv4Only Ipv4Only = true
is_flag Ipv6Only Ipv6Only = true
is_flag NoDhcp NoDhcp = true
is_flag NoDhcp6 NoDhcp6 = true
is_flag NoIpv4ll NoIpv4ll = true
is_flag NoArp NoArp = true
is_flag NoDelay NoDelay = true
is_flag Broadcast Broadcast = true
is_flag Release Release = true
is_flag Persistent Persistent = true
is_flag _ _ = false

abbrev pub flags_of : List FlagName → Flags
flags_of names = record {
  ipv4only = list_any (is_flag Ipv4Only) names;
  ipv6only = list_any (is_flag Ipv6Only) names;
  nodhcp = list_any (is_flag NoDhcp) names;
  nodhcp6 = list_any (is_flag NoDhcp6) names;
  noipv4ll = list_any (is_flag NoIpv4ll) names;
  noarp = list_any (is_flag NoArp) names;
  nodelay = list_any (is_flag NoDelay) names;
  broadcast = list_any (is_flag Broadcast) names;
  release = list_any (is_flag Release) names;
  persistent = list_any (is_flag Persistent) names;
}

-- with what one line more says
abbrev pub with_flag : FlagName → Flags → Flags
with_flag Ipv4Only on = record on { ipv4only = true }
with_flag Ipv6Only on = record on { ipv6only = true }
with_flag NoDhcp on = record on { nodhcp = true }
with_flag NoDhcp6 on = record on { nodhcp6 = true }
with_flag NoIpv4ll on = record on { noipv4ll = true }
with_flag NoArp on = record on { noarp = true }
with_flag NoDelay on = record on { nodelay = true }
with_flag Broadcast on = record on { broadcast = true }
with_flag Release on = record on { release = true }
with_flag Persistent on = record on { persistent = true }

abbrev pub flags_with : Flags → Option FlagName → Flags
flags_with on None = on
flags_with on (Some name) = with_flag name on
