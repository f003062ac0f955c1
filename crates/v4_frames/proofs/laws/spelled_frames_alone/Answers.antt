use Rattle.v4_frames.proofs.FramesBack.{spelled_alone}
use Rattle.v4_frames.proofs.laws.spelled_frames_alone.Goals as goal

pub returns : goal.returns
returns c = spelled_alone
