-- That a lease which was kept counts for its own interface alone.
use Rattle.std.specs.Prelude.{List, IfSome}
use Rattle.settings.specs.declared.interfaces.Managed.{Managed}
use Rattle.device_calls.specs.Calls.{Call}
use Rattle.evidence_words.specs.TurnModel.OwnLeases.{IsOfInterface}
use Rattle.evidence_words.specs.FiledLeases.{kept4_shown, kept6_shown}

-- What an opening shows as the kept leases of an interface has its name, and its hardware address where it tells its
-- origin, whatever its files held.
pub record ShowsOwn (opening : List Call) (m : Managed) : Type 0 where
  pub four : IfSome (kept4_shown opening m) (λ lease. IsOfInterface m.spec lease.name lease.origin)
  pub six : IfSome (kept6_shown opening m) (λ lease. IsOfInterface m.spec lease.name lease.origin)

abbrev pub KeptAreOwn : Type 0
KeptAreOwn = (opening : List Call) (m : Managed) → ShowsOwn opening m
