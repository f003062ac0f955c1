use Rattle.v4_client.proofs.SoundRuns.{stays_sound}
use Rattle.v4_client.proofs.laws.stays_sound.Goals as goal

pub returns : goal.returns
returns c = stays_sound
