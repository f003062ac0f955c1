use Rattle.told_texts.proofs.WholeTexts.{told_is_spelled}
use Rattle.told_texts.proofs.laws.told_is_spelled.Goals as goal

pub returns : goal.returns
returns c = told_is_spelled
