use Rattle.conf_words.proofs.PartLaws.{one_part}
use Rattle.conf_words.proofs.ReadingLaws.{one_line}
use Rattle.conf_words.proofs.laws.lines_are_one.Goals as goal

pub returns : goal.returns
returns c = one_part one_line
