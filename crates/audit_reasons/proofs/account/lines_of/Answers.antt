use Rattle.audit_reasons.proofs.Accounted.{said_at_end}
use Rattle.audit_reasons.proofs.account.lines_of.Goals as goal

pub returns-clause-said : goal.returns-clause-said
returns-clause-said c = said_at_end c.args.text.now c.in_ok-explainer.explainer c.in_ok-explainer.ensures.found
