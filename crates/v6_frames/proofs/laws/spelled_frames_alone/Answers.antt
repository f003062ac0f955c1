use Rattle.v6_frames.proofs.FramesBack.{spelled_alone}
use Rattle.v6_frames.proofs.laws.spelled_frames_alone.Goals as goal

pub returns : goal.returns
returns c = spelled_alone
