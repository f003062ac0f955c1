use Rattle.replayed_lives.proofs.LinesApart.{transcripts_alike}
use Rattle.replayed_lives.proofs.laws.hooks_change_nothing.Goals as goal

pub returns : goal.returns
returns c = transcripts_alike
