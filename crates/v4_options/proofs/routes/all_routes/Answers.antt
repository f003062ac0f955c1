use Rattle.std.proofs.lemmas.Bool.{eqb-true}
use Rattle.std.proofs.lemmas.List.{append-nil}
use Rattle.v4_options.proofs.RouteSteps.{no_routes}
use Rattle.v4_options.proofs.routes.all_routes.Goals as goal

pub returns : goal.returns
returns c =
    let done = no_routes c.routes.rest.now (eqb-true _ _ cc) in
    let whole = append-nil c.routes.routes.items in
    let ended = rw (done, whole) at c.routes.invariant in ended
