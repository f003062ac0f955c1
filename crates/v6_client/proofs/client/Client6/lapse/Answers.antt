use Rattle.std.proofs.Common.{Option, IfSome, sym, subst}
use Rattle.lease6_text.specs.Bounds.{FitsLease6}
use Rattle.lease6_text.specs.Leases.{Lease6Content}
use Rattle.v6_client.specs.Clients.{kept_in}
use Rattle.v6_items.specs.declared.scope.Cause6.TheVariants.{Lapse}
use Rattle.v6_client.proofs.LeftFits.{left_fits}
use Rattle.v6_client.proofs.client.Client6.lapse.Goals as goal

pub invariant_of-self : goal.invariant_of-self
invariant_of-self c = record {
  name = c.self.invariant.name;
  asks = c.self.invariant.asks;
  day = c.self.invariant.day;
  kept = subst (λ (kept : Option Lease6Content). IfSome kept FitsLease6) (sym c.in_err-lapse.ensures.err) c.self.invariant.kept;
}

pub invariant_of-self-then-not-is_at_end : goal.invariant_of-self-then-not-is_at_end
invariant_of-self-then-not-is_at_end c = record {
  name = c.self.invariant.name;
  asks = c.self.invariant.asks;
  day = c.self.invariant.day;
  kept = subst (λ (kept : Option Lease6Content). IfSome kept FitsLease6) (sym c.in_ok-lapse.ensures.kept)
      (left_fits (Lapse c.args.at) c.args.parting (kept_in c.self.inside.leases) c.self.invariant.kept);
}
