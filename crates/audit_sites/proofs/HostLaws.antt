-- What is in force for managed interfaces is within its bounds.
use Rattle.std.proofs.Common.{◌≡◌, List, Result, Ok, Err, IfOk, sym, subst}
use Rattle.std.specs.Global.{Vec}
use Rattle.std.specs.List.{AllByRecursion}
use Rattle.net_types.specs.declared.fault.NoMemory.{NoMemory}
use Rattle.net_types.specs.declared.interface.IfSpec.{IfSpec}
use Rattle.settings.specs.declared.interfaces.Managed.{Managed}
use Rattle.settings.specs.Fitting.{AreManaged}
use Rattle.conf_text.specs.Configurations.{Configuration}
use Rattle.conf_text.specs.Fits.{FitsSpec, SettingsFit}
use Rattle.conf_text.specs.Settings.{managed_of}
use Rattle.audit_sites.specs.Hosts.{IsRead}

pub managed_fit : (result : Result (Vec Managed) NoMemory) (conf : Configuration) (specs : List IfSpec) → SettingsFit → IsRead conf
    → AllByRecursion FitsSpec specs
    → IfOk result (λ all. all.items ≡ managed_of conf specs) → IfOk result (λ all. AreManaged all.items)
managed_fit (Ok all) conf specs law read each is = subst AreManaged (sym is) (law read.text conf read.is specs each).fit
managed_fit (Err e) conf specs law read each is = tt
