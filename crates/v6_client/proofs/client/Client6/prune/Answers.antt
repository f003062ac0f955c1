use Rattle.std.proofs.Common.{Option, IfSome, sym, subst}
use Rattle.lease6_text.specs.Bounds.{FitsLease6}
use Rattle.lease6_text.specs.Leases.{Lease6Content}
use Rattle.v6_items.specs.Bounds.{FitsAsks}
use Rattle.v6_client.specs.Clients.{kept_in}
use Rattle.v6_client.proofs.LeftFits.{pruned_fits}
use Rattle.v6_client.proofs.client.Client6.prune.Goals as goal

pub invariant_of-self : goal.invariant_of-self
invariant_of-self c = record {
  name = c.self.invariant.name;
  asks = c.self.invariant.asks;
  day = c.self.invariant.day;
  kept = subst (λ (kept : Option Lease6Content). IfSome kept FitsLease6) (sym c.in_ok-prune.ensures.kept)
      (pruned_fits c.args.at c.deref.result.now (kept_in c.self.inside.leases)
      (subst FitsAsks (sym c.deref.ensures.value) c.self.invariant.asks) c.self.invariant.kept);
}
