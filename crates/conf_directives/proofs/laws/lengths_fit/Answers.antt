use Rattle.conf_directives.proofs.LengthLaws as laws
use Rattle.conf_directives.proofs.laws.lengths_fit.Goals as goal

pub returns-clause-shares : goal.returns-clause-shares
returns-clause-shares c = laws.shares_fit

pub returns-clause-hints : goal.returns-clause-hints
returns-clause-hints c = laws.hints_fit
