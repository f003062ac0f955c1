use Rattle.progress.proofs.Reaching.{opening_reaches, turns_reach, always_reaches}
use Rattle.progress.proofs.laws.what_is_held_reaches_the_host.Goals as goal

pub returns : goal.returns
returns c = record { opening = opening_reaches; turns = turns_reach; always = always_reaches }
