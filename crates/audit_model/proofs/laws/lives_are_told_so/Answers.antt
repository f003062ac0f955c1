use Rattle.audit_model.proofs.CallsTold.{lives_told_so}
use Rattle.audit_model.proofs.laws.lives_are_told_so.Goals as goal

pub returns : goal.returns
returns c = lives_told_so
