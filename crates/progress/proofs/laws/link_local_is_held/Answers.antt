use Rattle.std.proofs.Common.{refl}
use Rattle.progress.proofs.Gaining.{held_in_time}
use Rattle.progress.proofs.Staying.{stays_held}
use Rattle.progress.proofs.laws.link_local_is_held.Goals as goal

pub returns : goal.returns
returns c = record { held = held_in_time; stays = stays_held; sum = refl }
