-- What the DHCPv6 client of an interface is told to ask for (RFC 8415, section 12).
use Rattle.std.specs.Prelude.{◌≢◌, ℕ, ◌<◌, ◌≤◌, ◌^◌, Bool, List, length, AllPairs}
use Rattle.std.specs.List.{AllByRecursion}
use Rattle.v6_options.specs.declared.ia.IaKind.{IaKind}
use Rattle.prefix_share.specs.Subnets.{FitsShare}
use Rattle.world.specs.Rows.{IsInterface}
use Rattle.settings.specs.declared.dhcp6_conf.IaConf.{IaConf}
use Rattle.settings.specs.declared.dhcp6_conf.ShareConf.{ShareConf}
use Rattle.settings.specs.declared.outlet.Outlet.{Outlet}

pub record Dhcp6Settings : Type 0 where
  -- whether a server may answer a SOLICIT by a Reply
  pub rapid : Bool
  pub ias : List IaConf
  -- who gets what of the prefixes
  pub shares : List ShareConf

-- an IA is told apart by its kind and its IAID
abbrev pub conf_key : IaConf → IaKind × ℕ
conf_key ia = (ia.kind, ia.iaid)

-- its numbers are within the types that hold them, and the length that is wished for within that of an address
pub record FitsIaConf (ia : IaConf) : Type 0 where
  pub iaid : ia.iaid < 2 ^ 32
  pub hint : ia.hint ≤ 128

pub record FitsOutlet (outlet : Outlet) : Type 0 where
  pub index : IsInterface outlet.iface.number
  pub metric : outlet.metric < 2 ^ 32

pub record FitsShareConf (conf : ShareConf) : Type 0 where
  pub share : FitsShare conf.share
  pub outlet : FitsOutlet conf.outlet

-- six IAs at most, each once
pub record FitsDhcp6 (settings : Dhcp6Settings) : Type 0 where
  pub few : length settings.ias ≤ 6
  pub each : AllByRecursion FitsIaConf settings.ias
  pub shares : AllByRecursion FitsShareConf settings.shares
  pub unlike : AllPairs (λ one other. conf_key one ≢ conf_key other) settings.ias
