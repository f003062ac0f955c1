-- Which rows a host can hold.
use Rattle.std.specs.Prelude.{ℕ, ◌≡◌, ◌<◌, ◌≤◌, ◌-◌, ◌%◌, ◌^◌}
use Rattle.net_types.specs.declared.address.Net.{Net}
use Rattle.net_types.specs.declared.address.Net.TheVariants as Family
use Rattle.world.specs.declared.rows.HostRow.{HostRow}
use Rattle.world.specs.declared.rows.HostRow.TheVariants.{Addr, Route}
use Rattle.world.specs.declared.rows.Via.{Via}
use Rattle.world.specs.declared.rows.Via.TheVariants as Ways

-- interfaces are numbered from 1 to 64
abbrev pub IsInterface : ℕ → Type 0
IsInterface number = (1 ≤ number) × (number ≤ 64)

-- an address with a prefix length of at most its width
abbrev pub IsNet : Net → Type 0
IsNet (Family.V4 net) = (net.ip.number < 2 ^ 32) × (net.len ≤ 32)
IsNet (Family.V6 net) = (net.ip.number < 2 ^ 128) × (net.len ≤ 128)

-- no bit is set past the length
abbrev pub IsNetwork : Net → Type 0
IsNetwork (Family.V4 net) = net.ip.number % 2 ^ (32 - net.len) ≡ 0
IsNetwork (Family.V6 net) = net.ip.number % 2 ^ (128 - net.len) ≡ 0

-- a gateway is of the destination's family
abbrev pub LeadsTo : Net → Via → Type 0
LeadsTo dest Ways.OnLink = Unit {0}
LeadsTo dest Ways.Reject = Unit {0}
LeadsTo (Family.V4 net) (Ways.Gate4 gate) = gate.number < 2 ^ 32
LeadsTo (Family.V6 net) (Ways.Gate6 gate) = gate.number < 2 ^ 128
LeadsTo dest way = ⊥

abbrev pub IsRow : HostRow → Type 0
IsRow (Addr iface net) = IsInterface iface.number × IsNet net
IsRow (Route iface dest way metric) =
    IsInterface iface.number × IsNet dest × IsNetwork dest × LeadsTo dest way × (metric < 2 ^ 32)
