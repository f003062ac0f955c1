use Rattle.made_script.proofs.FitLines.{lines_fit}
use Rattle.made_script.proofs.laws.made_scripts_fit.Goals as goal

pub returns : goal.returns
returns c = lines_fit
