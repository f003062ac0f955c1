use Rattle.std.proofs.Common.{Bool, Some, None, cond, sym, ap, ◌∙◌}
use Rattle.lease_text.specs.Leases.{lease_content}
use Rattle.kept_files.proofs.leases4.own_lease.Goals as goal

pub returns-then-is_own-clause-own : goal.returns-then-is_own-clause-own
returns-then-is_own-clause-own c = ap (λ (b : Bool). cond b (Some (lease_content c.args.lease)) None) (sym (sym c.is_own.ensures ∙ c.if-is_own.true))

pub returns-else-is_own-clause-own : goal.returns-else-is_own-clause-own
returns-else-is_own-clause-own c = ap (λ (b : Bool). cond b (Some (lease_content c.args.lease)) None) (sym (sym c.is_own.ensures ∙ c.if-is_own.false))
