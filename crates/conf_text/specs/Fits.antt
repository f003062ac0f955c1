-- What is in force for an interface is within the bounds that its client relies on.
use Rattle.std.specs.Prelude.{ℕ, List, Ok}
use Rattle.std.specs.List.{AllByRecursion}
use Rattle.net_types.specs.declared.interface.IfSpec.{IfSpec}
use Rattle.settings.specs.declared.interfaces.Managed.{Managed}
use Rattle.net_types.specs.AddressText.{FitsMac}
use Rattle.net_types.specs.NameText.{FitsName}
use Rattle.world.specs.Rows.{IsInterface}
use Rattle.settings.specs.Fitting.{AreManaged}
use Rattle.settings.specs.ManagedRows.{SharesAreManaged}
use Rattle.conf_text.specs.Configurations.{Configuration, IsConfOf}
use Rattle.conf_text.specs.Settings.{managed_of}

-- an interface as a run has them
pub record FitsSpec (spec : IfSpec) : Type 0 where
  pub index : IsInterface spec.index.number
  pub name : FitsName spec.name
  pub mac : FitsMac spec.mac

-- each is within its bounds, and shares are of managed interfaces
pub record AreInForce (managed : List Managed) : Type 0 where
  pub fit : AreManaged managed
  pub shares : SharesAreManaged managed

abbrev pub SettingsFit : Type 0
SettingsFit =
    (text : List ℕ) (conf : Configuration) → IsConfOf text (Ok conf) → (specs : List IfSpec)
    → AllByRecursion FitsSpec specs → AreInForce (managed_of conf specs)
