-- The carrier comes or goes, which is told first.
use Rattle.std.proofs.Common.{ℕ, true, false, [], ◌∷◌, sym, subst}
use Rattle.settings.specs.declared.interfaces.Managed.{Managed}
use Rattle.iface_machines.specs.HookEnv.Situations.{Nothing}
use Rattle.world.specs.declared.reasons.Reason.TheVariants.{NoCarrier}
use Rattle.client_model.specs.declared.interfaces.Iface.{Iface}
use Rattle.client_model.specs.declared.steps.News.TheVariants.{CarrierCame, CarrierWent}
use Rattle.client_model.specs.Interfaces.{begins, carrier_comes, carrier_goes, machines_drop}
use Rattle.client_model.specs.Jobs.{own}
use Rattle.iface_machines.specs.Outcomes.{Asked, Goes, Tells, carrier_told}
use Rattle.iface_machines.proofs.Following.{goes_with_news}
use Rattle.iface_core.proofs.Staying.{begins_stays}

module _ (at salt : ℕ) (old new : Iface) (none some all : Asked) where
  pub goes_comes : Tells (CarrierCame ∷ []) (carrier_told old.managed) none some → Goes (begins at salt (record old { up = true })) new some all
      → Goes (carrier_comes at salt old) new none all
  goes_comes one two =
      goes_with_news CarrierCame old new (begins at salt (record old { up = true })) none some all
      (subst (λ (managed : Managed). Tells (CarrierCame ∷ []) (carrier_told managed) none some)
      (sym (begins_stays at salt (record old { up = true })).managed) one)
      two

  pub goes_away : Tells (CarrierWent ∷ []) (own NoCarrier old.managed false Nothing Nothing) none some
      → Goes (machines_drop at salt (record old { up = false })) new some all → Goes (carrier_goes at salt old) new none all
  goes_away one two = goes_with_news CarrierWent old new (machines_drop at salt (record old { up = false })) none some all one two
