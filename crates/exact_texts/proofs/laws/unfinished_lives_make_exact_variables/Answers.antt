use Rattle.exact_texts.proofs.UnfinishedLives.{lives_tell_exactly}
use Rattle.exact_texts.proofs.laws.unfinished_lives_make_exact_variables.Goals as goal

pub returns : goal.returns
returns c = lives_tell_exactly
