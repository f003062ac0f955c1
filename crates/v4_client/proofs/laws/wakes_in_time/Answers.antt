use Rattle.v4_client.proofs.InTime.{wakes_in_time}
use Rattle.v4_client.proofs.laws.wakes_in_time.Goals as goal

pub returns : goal.returns
returns c = wakes_in_time
