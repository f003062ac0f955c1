use Rattle.safe_texts.proofs.CutLives.{lives_tell_safely}
use Rattle.safe_texts.proofs.laws.unfinished_lives_are_safe.Goals as goal

pub returns : goal.returns
returns c = lives_tell_safely
