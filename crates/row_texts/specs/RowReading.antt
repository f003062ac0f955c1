-- How the text of a row is read: by its words from left to right. An IPv6 address is read in any spelling.
use Rattle.std.specs.Prelude.{ℕ, ◌-◌, ◌%◌, ◌^◌, Bool, true, false, ◌&&◌, ◌==◌, nat_le, List, Option, Some, None, codes, option_map}
use Rattle.net_types.specs.declared.address.Net.{Net}
use Rattle.net_types.specs.declared.address.Net.TheVariants.{V4, V6}
use Rattle.net_types.specs.declared.interface.IfIndex.{IfIndex}
use Rattle.net_types.specs.AddressText.{ip4_at, net4_at}
use Rattle.net_types.specs.Cutting.{after_word, pair_at, choice_at, guarded}
use Rattle.net_types.specs.Ip6Text.{ip6_at, net6_at}
use Rattle.net_types.specs.Numbers.{number_at}
use Rattle.world.specs.declared.rows.HostRow.{HostRow}
use Rattle.world.specs.declared.rows.HostRow.TheVariants.{Addr, Route}
use Rattle.world.specs.declared.rows.Via.{Via}
use Rattle.world.specs.declared.rows.Via.TheVariants.{OnLink, Reject, Gate4, Gate6}

-- the number of an interface, 1 to 64
unfoldable pub iface_at : List ℕ → Option IfIndex
iface_at text = option_map (λ n. record { number = n }) (guarded (λ n. nat_le 1 n) (number_at 65 text))

unfoldable pub metric_at : List ℕ → Option ℕ
metric_at text = number_at (2 ^ 32) text

-- the first reading, or the other where it found nothing
abbrev pub either : {X : Type 0} → Option X → Option X → Option X
either (Some x) other = Some x
either None other = other

unfoldable pub net_at : List ℕ → Option Net
net_at text = either (option_map V4 (net4_at text)) (option_map V6 (net6_at text))

unfoldable pub gateway_at : List ℕ → Option Via
gateway_at text = either (option_map Gate4 (ip4_at text)) (option_map Gate6 (ip6_at text))

-- where a route leads, and its metric
abbrev pub Tail : Type 0
Tail = Via × ℕ

unfoldable pub on_link_at : List ℕ → Option Tail
on_link_at text = option_map (λ m. (OnLink, m)) (metric_at text)

unfoldable pub reject_at : List ℕ → Option Tail
reject_at text = option_map (λ m. (Reject, m)) (metric_at text)

unfoldable pub gate_at : List ℕ → Option Tail
gate_at text = pair_at 32 gateway_at (after_word (codes "metric ") metric_at) text

unfoldable pub tail_at : List ℕ → Option Tail
tail_at text =
    choice_at (codes "metric ") on_link_at
    (choice_at (codes "reject metric ") reject_at (after_word (codes "via ") gate_at)) text

unfoldable pub addr_at : List ℕ → Option HostRow
addr_at text = option_map (λ p. Addr p.0 p.1) (pair_at 32 iface_at net_at text)

-- no bit is set past the length
abbrev pub is_prefix : (width number len : ℕ) → Bool
is_prefix width number len = number % 2 ^ (width - len) == 0

abbrev pub is_network : Net → Bool
is_network (V4 net) = is_prefix 32 net.ip.number net.len
is_network (V6 net) = is_prefix 128 net.ip.number net.len

-- a gateway is of the destination's family
abbrev pub is_way_to : Net → Via → Bool
is_way_to (V4 net) (Gate6 gate) = false
is_way_to (V6 net) (Gate4 gate) = false
is_way_to dest way = true

abbrev pub RouteParts : Type 0
RouteParts = IfIndex × (Net × Tail)

unfoldable pub route_parts_at : List ℕ → Option RouteParts
route_parts_at text = pair_at 32 iface_at (pair_at 32 net_at tail_at) text

unfoldable pub route_at : List ℕ → Option HostRow
route_at text =
    option_map (λ p. Route p.0 p.1.0 p.1.1.0 p.1.1.1)
    (guarded (λ p. is_network p.1.0 && is_way_to p.1.0 p.1.1.0) (route_parts_at text))

unfoldable pub row_at : List ℕ → Option HostRow
row_at text = choice_at (codes "addr ") addr_at (after_word (codes "route ") route_at) text
