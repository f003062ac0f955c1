use Rattle.audit_turns.proofs.GoingLaws.{line_goes_on}
use Rattle.audit_turns.proofs.laws.what_goes_on_is_the_lifes.Goals as goal

pub returns : goal.returns
returns c = line_goes_on
