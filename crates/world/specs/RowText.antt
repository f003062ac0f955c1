-- The texts of the host's rows.
use Rattle.std.specs.Prelude.{ℕ, List, [], ◌++◌, codes, decimal}
use Rattle.net_types.specs.AddressText.{ip4_text, ip6_text, net_text}
use Rattle.net_types.specs.declared.address.Net.{Net}
use Rattle.net_types.specs.declared.address.Net.TheVariants as Family
use Rattle.world.specs.declared.rows.HostRow.{HostRow}
use Rattle.world.specs.declared.rows.HostRow.TheVariants.{Addr, Route}
use Rattle.world.specs.declared.rows.Via.{Via}
use Rattle.world.specs.declared.rows.Via.TheVariants as Ways
use Rattle.world.specs.RowOrder.{row_net}
use Rattle.world.specs.Rows.{IsRow}

-- nothing for a route on the link
abbrev pub way_text : Via → List ℕ
way_text Ways.OnLink = []
way_text Ways.Reject = codes " reject"
way_text (Ways.Gate4 gate) = codes " via " ++ ip4_text gate
way_text (Ways.Gate6 gate) = codes " via " ++ ip6_text gate

unfoldable pub row_text : HostRow → List ℕ
row_text (Addr iface net) = codes "addr " ++ decimal iface.number ++ codes " " ++ net_text net
row_text (Route iface dest way metric) =
    codes "route " ++ decimal iface.number ++ codes " " ++ net_text dest ++ way_text way ++ codes " metric "
    ++ decimal metric

abbrev pub IsIpv4 : Net → Type 0
IsIpv4 (Family.V4 net) = Unit {0}
IsIpv4 (Family.V6 net) = ⊥

-- rows of IPv4 are read so far
pub record IsBuiltRow (row : HostRow) : Type 0 where
  pub is_row : IsRow row
  pub is_ipv4 : IsIpv4 (row_net row)
