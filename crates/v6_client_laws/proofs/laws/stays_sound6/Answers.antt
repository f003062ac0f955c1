use Rattle.v6_client_laws.proofs.StayingRuns.{sound_stays}
use Rattle.v6_client_laws.proofs.TimedReplies.{grants_fit}
use Rattle.v6_client_laws.proofs.laws.stays_sound6.Goals as goal

pub returns-clause-sound : goal.returns-clause-sound
returns-clause-sound c = sound_stays

pub returns-clause-grants : goal.returns-clause-grants
returns-clause-grants c = grants_fit
