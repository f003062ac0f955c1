use Rattle.conf_directives.proofs.IdentifierLaws as laws
use Rattle.conf_directives.proofs.laws.identifiers_fit.Goals as goal

pub returns : goal.returns
returns c = laws.identifiers_fit
