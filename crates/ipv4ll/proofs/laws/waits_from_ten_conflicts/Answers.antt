use Rattle.ipv4ll.proofs.Counting.{waits_from_ten_conflicts_lem}
use Rattle.ipv4ll.proofs.laws.waits_from_ten_conflicts.Goals as goal

pub returns : goal.returns
returns c = waits_from_ten_conflicts_lem
