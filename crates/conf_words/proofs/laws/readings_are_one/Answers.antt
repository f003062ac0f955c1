use Rattle.conf_words.proofs.ReadingLaws.{one_reading}
use Rattle.conf_words.proofs.laws.readings_are_one.Goals as goal

pub returns : goal.returns
returns c = one_reading
