use Rattle.loop_link.proofs.ReceivedCalls.{received_so}
use Rattle.loop_link.proofs.links.Wire.receive.Goals as goal

pub returns-in-Ok-receive-clause-asked : goal.returns-in-Ok-receive-clause-asked
returns-in-Ok-receive-clause-asked g c =
    received_so _ _ c.receive.new.buf c.in-Ok-receive.len c.in-Ok-receive.sender c.from_peer.result _ _ _ c.from_peer.ensures c.in-Ok.ensures.told
    c.in-Ok-receive.ensures.told
