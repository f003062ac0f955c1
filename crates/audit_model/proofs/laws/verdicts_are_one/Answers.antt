use Rattle.audit_model.proofs.Found.{one_verdict}
use Rattle.audit_model.proofs.laws.verdicts_are_one.Goals as goal

pub returns : goal.returns
returns c = one_verdict
