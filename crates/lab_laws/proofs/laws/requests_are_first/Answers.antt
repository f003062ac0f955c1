use Rattle.lab_laws.proofs.Numbers.{first_request}
use Rattle.lab_laws.proofs.laws.requests_are_first.Goals as goal

pub returns : goal.returns
returns c = first_request
