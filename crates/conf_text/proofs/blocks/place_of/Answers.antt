use Rattle.std.proofs.Common.{◌∙◌}
use Rattle.conf_text.proofs.BlockLaws.{key_place}
use Rattle.conf_text.proofs.blocks.place_of.Goals as goal

pub returns : goal.returns
returns c = c.get_index_of.ensures.index ∙ key_place c.args.name.now c.args.blocks.now.entries
