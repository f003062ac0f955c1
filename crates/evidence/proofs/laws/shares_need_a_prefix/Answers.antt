use Rattle.evidence.proofs.ShareProofs.{needs_another, needs_delegation, needs_prefix, needs_reply_with_it, needs_same_ia, needs_share}
use Rattle.evidence.proofs.laws.shares_need_a_prefix.Goals as goal

pub returns-clause-another : goal.returns-clause-another
returns-clause-another c = needs_another

pub returns-clause-delegation : goal.returns-clause-delegation
returns-clause-delegation c = needs_delegation

pub returns-clause-prefix : goal.returns-clause-prefix
returns-clause-prefix c = needs_prefix

pub returns-clause-reply : goal.returns-clause-reply
returns-clause-reply c = needs_reply_with_it

pub returns-clause-configured : goal.returns-clause-configured
returns-clause-configured c = needs_share

pub returns-clause-same : goal.returns-clause-same
returns-clause-same c = needs_same_ia
