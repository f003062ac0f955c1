use Rattle.ipv4ll.proofs.Chosen.{chooses_in_range_lem}
use Rattle.ipv4ll.proofs.laws.chooses_in_range.Goals as goal

pub returns : goal.returns
returns c = chooses_in_range_lem
