use Rattle.iface_machines.specs.Beginnings.{beginning_of}
use Rattle.iface_machines.proofs.Asks6.{kept6_fits}
use Rattle.iface_core.proofs.interfaces.rest.Goals as goal

pub client6_of-requires-clause-kept : goal.client6_of-requires-clause-kept
client6_of-requires-clause-kept c = kept6_fits (beginning_of c.args.beginning).kept6 c.requires.kept6
