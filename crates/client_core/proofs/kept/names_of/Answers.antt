use Rattle.client_core.proofs.Earliest.{name_more}
use Rattle.client_core.proofs.kept.names_of.Goals as goal

pub places-preserved : goal.places-preserved
places-preserved c = name_more c.args.ifaces.now c.places.place _ c.places.named c.name.new.self c.places-test.true c.places.invariant c.name.ensures
