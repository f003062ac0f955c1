use Rattle.std.proofs.Common.{◌≡◌, length}
use Rattle.std.specs.Prelude.{is_some}
use Rattle.v4_options.specs.Routes.{all_routes}
use Rattle.v4_options.proofs.routes.are_routes.Given as goal

abbrev pub invariant-routes : goal.invariant-routes
invariant-routes l = is_some (all_routes l.rest) ≡ is_some (all_routes l.value)

abbrev pub decreases-routes : goal.decreases-routes
decreases-routes l = length l.rest
