use Rattle.std.proofs.Common.{sym, subst}
use Rattle.std.specs.List.{AllByRecursion}
use Rattle.conf_text.specs.Contents.{configuration}
use Rattle.conf_text.specs.Fits.{FitsSpec}
use Rattle.audit_sites.proofs.HostLaws.{managed_fit}
use Rattle.audit_sites.proofs.known.Known.managed.Goals as goal

pub returns-clause-fit : goal.returns-clause-fit
returns-clause-fit c =
    managed_fit c.managed.result (configuration c.self.inside.conf) c.deref.result.now c.settings_fit.ensures c.self.invariant.0
    (subst (AllByRecursion FitsSpec) (sym c.deref.ensures.value) c.self.invariant.1) c.managed.ensures
