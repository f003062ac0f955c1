use Rattle.lab_peer.proofs.ClientsAlone.{clients_alone_are_read}
use Rattle.lab_peer.proofs.laws.client_frames_alone.Goals as goal

pub returns : goal.returns
returns c = clients_alone_are_read
