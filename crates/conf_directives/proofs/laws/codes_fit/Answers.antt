use Rattle.conf_directives.proofs.CodeLaws as laws
use Rattle.conf_directives.proofs.laws.codes_fit.Goals as goal

pub returns : goal.returns
returns c = laws.codes_fit
