use Rattle.std.proofs.Common.{◌≡◌, ◌++◌, length}
use Rattle.std.specs.Option.{option_map}
use Rattle.v4_options.specs.Routes.{all_routes}
use Rattle.v4_options.proofs.routes.all_routes.Given as goal

abbrev pub invariant-routes : goal.invariant-routes
invariant-routes l = option_map (λ more. l.routes.items ++ more) (all_routes l.rest) ≡ all_routes l.value

abbrev pub decreases-routes : goal.decreases-routes
decreases-routes l = length l.rest
