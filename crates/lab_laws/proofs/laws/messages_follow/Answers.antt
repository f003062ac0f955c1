use Rattle.lab_laws.proofs.FollowedTurns.{messages_follow}
use Rattle.lab_laws.proofs.laws.messages_follow.Goals as goal

pub returns : goal.returns
returns c = messages_follow
