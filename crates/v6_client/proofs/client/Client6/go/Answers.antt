use Rattle.std.proofs.Common.{Option, IfSome, sym, subst}
use Rattle.lease6_text.specs.Bounds.{FitsLease6}
use Rattle.lease6_text.specs.Leases.{Lease6Content}
use Rattle.v6_client.proofs.client.Client6.go.Goals as goal

pub invariant_of-self : goal.invariant_of-self
invariant_of-self c = record {
  name = c.self.invariant.name;
  asks = c.self.invariant.asks;
  day = c.self.invariant.day;
  kept = subst (λ (kept : Option Lease6Content). IfSome kept FitsLease6) (sym c.in_err-old.ensures.err) c.self.invariant.kept;
}
