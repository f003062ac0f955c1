use Rattle.server_data.proofs.RepliesRead.{reads_back}
use Rattle.server_data.proofs.laws.replies_are_read_back.Goals as goal

pub returns : goal.returns
returns c = reads_back
