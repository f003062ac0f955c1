-- Timers, and their order.
use Rattle.std.specs.declared.cmp.Ordering.{Ordering}
use Rattle.std.specs.Ordering.{nat_cmp, on, flip_args, then_cmp, eq_by_cmp}
use Rattle.std.specs.Cmp.{IsTotalOrder, IsEquivalence, eq_by_cmp_equiv}
use Rattle.std.specs.Cmp.Rules.{comparing}
use Rattle.timer_queue.specs.declared.timer.Timer.{Timer}

-- the later moment first; at one moment the greater key first
abbrev pub timer_cmp : Timer → Timer → Ordering
timer_cmp = then_cmp (flip_args (on (λ timer. timer.due) nat_cmp)) (flip_args (on (λ timer. timer.key) nat_cmp))

-- it is a total order
pub timer_cmp_total : IsTotalOrder timer_cmp
timer_cmp_total = search comparing depth 20

pub timer_eq_equivalence : IsEquivalence (eq_by_cmp timer_cmp)
timer_eq_equivalence = eq_by_cmp_equiv timer_cmp_total
