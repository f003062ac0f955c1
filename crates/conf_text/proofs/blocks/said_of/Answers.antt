use Rattle.std.proofs.Common.{◌∙◌, ap, option_map}
use Rattle.conf_scopes.specs.ScopeContents.{scope_content}
use Rattle.conf_text.proofs.BlockLaws.{key_scope}
use Rattle.conf_text.proofs.blocks.said_of.Goals as goal

pub returns : goal.returns
returns c = ap (option_map scope_content) c.get.ensures.value ∙ key_scope c.args.name.now c.args.blocks.now.entries
