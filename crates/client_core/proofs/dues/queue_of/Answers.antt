use Rattle.std.proofs.Common.{[], refl}
use Rattle.client_core.proofs.Waiting.{moments_none}
use Rattle.client_core.proofs.Earliest.{due_more}
use Rattle.client_core.proofs.dues.queue_of.Goals as goal

pub places-init : goal.places-init
places-init c = moments_none [] c.in_ok-dues.dues refl c.in_ok-dues.ensures

pub places-preserved : goal.places-preserved
places-preserved c =
    due_more c.args.ifaces.now c.places.place c.index-ifaces-place.result c.index-ifaces-place.result c.places.dues c.put.new.self c.places-test.true
    c.places.invariant
    c.index-ifaces-place.is c.put.ensures.puts
