use Rattle.std.proofs.lemmas.Result.{IfOk-weaker}
use Rattle.client_core.proofs.Destinations.{leads_in}
use Rattle.client_core.proofs.lease_rows.classless_of.Goals as goal

pub returns-in-Some-clause-fit : goal.returns-in-Some-clause-fit
returns-in-Some-clause-fit c = IfOk-weaker c.routes_of.result _ _ (λ routes is. leads_in routes c.in-Some.value.now is) c.routes_of.ensures
