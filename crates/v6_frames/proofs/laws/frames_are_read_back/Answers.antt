use Rattle.v6_frames.proofs.FramesBack.{fits_datagram, reads_back}
use Rattle.v6_frames.proofs.laws.frames_are_read_back.Goals as goal

pub returns-clause-read : goal.returns-clause-read
returns-clause-read c = reads_back

pub returns-clause-most : goal.returns-clause-most
returns-clause-most c = fits_datagram
