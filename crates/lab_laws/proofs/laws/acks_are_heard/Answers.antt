use Rattle.lab_laws.proofs.HeardBack as back
use Rattle.lab_laws.proofs.ServerOctets as octets
use Rattle.lab_laws.proofs.laws.acks_are_heard.Goals as goal

pub returns-clause-acks : goal.returns-clause-acks
returns-clause-acks c = back.acks_of_peer

pub returns-clause-frames : goal.returns-clause-frames
returns-clause-frames c = back.acks_come_in_frames

pub returns-clause-octets : goal.returns-clause-octets
returns-clause-octets c = octets.frames_are_octets
