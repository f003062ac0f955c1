use Rattle.ipv4ll.proofs.Holding.{holds_probed_lem}
use Rattle.ipv4ll.proofs.laws.holds_probed.Goals as goal

pub returns : goal.returns
returns c = holds_probed_lem
