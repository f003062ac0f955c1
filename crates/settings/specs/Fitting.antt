-- Which interfaces the configuration can name.
use Rattle.std.specs.Prelude.{◌<◌, ◌^◌, IfSome, List}
use Rattle.std.specs.List.{AllByRecursion}
use Rattle.net_types.specs.AddressText.{FitsIp4, FitsMac, FitsNet4, FitsNet6}
use Rattle.net_types.specs.NameText.{FitsName}
use Rattle.world.specs.Rows.{IsInterface}
use Rattle.settings.specs.declared.interfaces.Managed.{Managed}
use Rattle.settings.specs.Dhcp4Settings.{FitsDhcp4}
use Rattle.settings.specs.Dhcp6Settings.{FitsDhcp6}

pub record FitsManaged (managed : Managed) : Type 0 where
  pub index : IsInterface managed.spec.index.number
  pub name : FitsName managed.spec.name
  pub mac : FitsMac managed.spec.mac
  pub metric : IfSome managed.conf.metric (λ metric. metric < 2 ^ 32)
  pub address : IfSome managed.conf.address FitsNet4
  pub address6 : IfSome managed.conf.address6 FitsNet6
  pub router : IfSome managed.conf.router FitsIp4
  pub dhcp4 : FitsDhcp4 managed.conf.dhcp4
  pub dhcp6 : FitsDhcp6 managed.conf.dhcp6

abbrev pub AreManaged : List Managed → Type 0
AreManaged managed = AllByRecursion FitsManaged managed
