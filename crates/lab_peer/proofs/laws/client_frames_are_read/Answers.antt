use Rattle.lab_peer.proofs.ClientsRead.{each_client_is_read}
use Rattle.lab_peer.proofs.laws.client_frames_are_read.Goals as goal

pub returns : goal.returns
returns c = each_client_is_read
