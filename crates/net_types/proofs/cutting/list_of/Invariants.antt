use Rattle.std.proofs.Common.{◌≡◌, ◌++◌, option_map, length}
use Rattle.net_types.specs.Cutting.{list_at}
use Rattle.net_types.proofs.cutting.list_of.Given as goal

abbrev pub invariant-parts : goal.invariant-parts
invariant-parts g l = list_at l.separator g.T.FromText.found l.bytes ≡ option_map (λ xs. l.items.items ++ xs) (list_at l.separator g.T.FromText.found l.rest)

abbrev pub decreases-parts : goal.decreases-parts
decreases-parts g l = length l.rest
