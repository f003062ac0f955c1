use Rattle.told_lives.proofs.ToldLives.{lives_are_well_told}
use Rattle.told_lives.proofs.laws.lives_are_well_told.Goals as goal

pub returns : goal.returns
returns c = lives_are_well_told
