use Rattle.arp_acd.proofs.Runs.{gives_up_contested_twice_lem}
use Rattle.arp_acd.proofs.laws.gives_up_contested_twice.Goals as goal

pub returns : goal.returns
returns c = gives_up_contested_twice_lem
