use Rattle.std.proofs.Common.{rules}
use Rattle.std.proofs.lemmas.List.Sorted.{IsNonDecreasingBy-from_sort_by_key}
use Rattle.conf_directives.proofs.OrderedShares.{same_plan}
use Rattle.conf_directives.proofs.shares.in_order.Goals as goal

pub returns-clause-same : goal.returns-clause-same
returns-clause-same c = same_plan _ _ c.sort_unstable_by_key.ensures.permutation

pub returns-clause-rising : goal.returns-clause-rising
returns-clause-rising c = IsNonDecreasingBy-from_sort_by_key (λ share. share.sla) _ c.sort_unstable_by_key.ensures.sorted (λ a r q k. search rules)
