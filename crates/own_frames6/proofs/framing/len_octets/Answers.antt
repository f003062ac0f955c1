use Rattle.std.proofs.Common.{◌∙◌}
use Rattle.own_frames6.proofs.Words.{word_wraps}
use Rattle.own_frames6.proofs.framing.len_octets.Goals as goal

pub returns : goal.returns
returns c = c.u16_octets.ensures ∙ word_wraps c.args.len
