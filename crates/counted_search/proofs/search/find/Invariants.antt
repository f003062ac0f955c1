use Rattle.std.proofs.Common.{ℕ, ◌+◌, ◌-◌, ◌^◌, ◌<◌, ◌≤◌, length}
use Rattle.counted_search.proofs.Halving.{Narrowed, Enough}
use Rattle.counted_search.proofs.search.find.Given as goal

abbrev pub invariant-halves : goal.invariant-halves
invariant-halves g l = record {
  ordered : l.low ≤ l.high;
  within : l.high ≤ length l.keys;
  narrowed : Narrowed (λ other. g.K.Ord.cmp other l.key) l.keys l.low l.high;
  grows : l.initial.steps ≤ l.steps;
  enough : (n : ℕ) → length l.keys < 2 ^ n → Enough (l.high - l.low) l.steps (l.initial.steps + n);
}

abbrev pub decreases-halves : goal.decreases-halves
decreases-halves g l = l.high - l.low
