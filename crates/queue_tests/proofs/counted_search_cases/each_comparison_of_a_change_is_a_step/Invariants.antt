use Rattle.std.specs.List.Sorted.{IsStrictlySortedBy}
use Rattle.std.specs.Ordering.{nat_cmp, on}
use Rattle.queue_tests.proofs.counted_search_cases.each_comparison_of_a_change_is_a_step.Given as goal

abbrev pub invariant-loop-number : goal.invariant-loop-number
invariant-loop-number g l = IsStrictlySortedBy (on (λ key. key.number) nat_cmp) l.keys.items

abbrev pub invariant-loop-number-2 : goal.invariant-loop-number-2
invariant-loop-number-2 g l = IsStrictlySortedBy (on (λ key. key.number) nat_cmp) l.keys.items

abbrev pub invariant-loop-number-3 : goal.invariant-loop-number-3
invariant-loop-number-3 g l = IsStrictlySortedBy (on (λ key. key.number) nat_cmp) l.keys.items
