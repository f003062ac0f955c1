use Rattle.v6_frames.proofs.FramesBack.{spells_one}
use Rattle.v6_frames.proofs.laws.frames_spell_one_message.Goals as goal

pub returns : goal.returns
returns c = spells_one
