use Rattle.arp_acd.proofs.Runs.{passes_after_probes_lem}
use Rattle.arp_acd.proofs.laws.passes_after_probes.Goals as goal

pub returns : goal.returns
returns c = passes_after_probes_lem
