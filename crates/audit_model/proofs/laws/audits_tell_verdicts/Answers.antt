use Rattle.audit_model.proofs.Found.{audits_tell, verdicts_said}
use Rattle.audit_model.proofs.laws.audits_tell_verdicts.Goals as goal

pub returns-clause-told : goal.returns-clause-told
returns-clause-told c = audits_tell

pub returns-clause-text : goal.returns-clause-text
returns-clause-text c = verdicts_said
