-- Which texts spell a row of the host: its words in order. An IPv6 address may have any spelling (RFC 4291, section
-- 2.2), all else is as printed.
use Rattle.std.specs.Prelude.{◌≡◌, ℕ, List, [], ◌++◌, codes, decimal}
use Rattle.world.specs.NetTypes.declared.address.Ip6.{Ip6}
use Rattle.world.specs.NetTypes.declared.address.Net.{Net}
use Rattle.world.specs.NetTypes.declared.address.Net.TheVariants as Family
use Rattle.world.specs.NetTypes.declared.interface.IfIndex.{IfIndex}
use Rattle.world.specs.NetTypes.AddressText.{ip4_text, net4_text}
use Rattle.world.specs.NetTypes.Ip6Text.{SpellsIp6, SpellsNet6}
use Rattle.world.specs.declared.rows.HostRow.{HostRow}
use Rattle.world.specs.declared.rows.HostRow.TheVariants.{Addr, Route}
use Rattle.world.specs.declared.rows.Via.{Via}
use Rattle.world.specs.declared.rows.Via.TheVariants as Ways

-- an address of either family, a slash and the prefix length
abbrev pub SpellsNet : List ℕ → Net → Type 0
SpellsNet text (Family.V4 net) = text ≡ net4_text net
SpellsNet text (Family.V6 net) = SpellsNet6 text net

pub record SpellsGate6 (text : List ℕ) (gate : Ip6) : Type 0 where
  pub address : List ℕ
  pub spelled : text ≡ codes " via " ++ address
  pub spells : SpellsIp6 address gate

-- where a route leads: nothing for one on the link
abbrev pub SpellsWay : List ℕ → Via → Type 0
SpellsWay text Ways.OnLink = text ≡ []
SpellsWay text Ways.Reject = text ≡ codes " reject"
SpellsWay text (Ways.Gate4 gate) = text ≡ codes " via " ++ ip4_text gate
SpellsWay text (Ways.Gate6 gate) = SpellsGate6 text gate

pub record SpellsAddr (text : List ℕ) (iface : IfIndex) (net : Net) : Type 0 where
  pub address : List ℕ
  pub spelled : text ≡ codes "addr " ++ decimal iface.number ++ codes " " ++ address
  pub spells : SpellsNet address net

pub record SpellsRoute (text : List ℕ) (iface : IfIndex) (dest : Net) (way : Via) (metric : ℕ) : Type 0 where
  pub network : List ℕ
  pub path : List ℕ
  pub spelled : text
      ≡ codes "route " ++ decimal iface.number ++ codes " " ++ network ++ path ++ codes " metric " ++ decimal metric
  pub spells : SpellsNet network dest
  pub leads : SpellsWay path way

abbrev pub SpellsRow : List ℕ → HostRow → Type 0
SpellsRow text (Addr iface net) = SpellsAddr text iface net
SpellsRow text (Route iface dest way metric) = SpellsRoute text iface dest way metric
