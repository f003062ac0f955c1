use Rattle.std.proofs.Common.{Option, IfSome, sym, subst}
use Rattle.lease6_text.specs.Bounds.{FitsLease6}
use Rattle.lease6_text.specs.Leases.{Lease6Content}
use Rattle.v6_client.specs.Clients.{kept_in}
use Rattle.v6_items.specs.declared.scope.Cause6.TheVariants.{Duplicate}
use Rattle.v6_client.proofs.LeftFits.{thinned_fits}
use Rattle.v6_client.proofs.client.Client6.decline.Goals as goal

pub invariant_of-self-2 : goal.invariant_of-self-2
invariant_of-self-2 c = record {
  name = c.self.invariant.name;
  asks = c.self.invariant.asks;
  day = c.self.invariant.day;
  kept = subst (λ (kept : Option Lease6Content). IfSome kept FitsLease6) (sym c.in_ok-decline.ensures.kept)
      (thinned_fits (Duplicate c.args.address) (kept_in c.self.inside.leases) c.self.invariant.kept);
}
