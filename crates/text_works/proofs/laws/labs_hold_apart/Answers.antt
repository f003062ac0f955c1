use Rattle.text_works.proofs.LabsApart as apart
use Rattle.text_works.proofs.laws.labs_hold_apart.Goals as goal

pub returns : goal.returns
returns c = apart.labs_hold_apart
