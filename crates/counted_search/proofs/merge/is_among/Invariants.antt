use Rattle.std.proofs.Common.{◌≡◌, ◌+◌, ◌-◌, ◌≤◌, length, drop}
use Rattle.std.specs.BTreeMap.Range.{IsLeBy}
use Rattle.counted_search.specs.Ordered.{has_key}
use Rattle.counted_search.proofs.merge.is_among.Given as goal

abbrev pub invariant-below : goal.invariant-below
invariant-below g l = record {
  within : l.place ≤ length l.keys;
  passed : (q : g.row.K.Denot) → IsLeBy g.K.Ord.cmp l.key q → has_key g.K.Ord.cmp (drop l.initial.place l.keys) q ≡ has_key g.K.Ord.cmp (drop l.place l.keys) q;
  grows : l.initial.steps ≤ l.steps;
  steps : l.steps + l.initial.place ≤ l.initial.steps + l.place;
}

abbrev pub decreases-below : goal.decreases-below
decreases-below g l = length l.keys - l.place
