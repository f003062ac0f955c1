use Rattle.v6_frames.proofs.OtherKinds.{others_spell_nothing}
use Rattle.v6_frames.proofs.laws.other_frames_spell_nothing.Goals as goal

pub returns : goal.returns
returns c = others_spell_nothing
