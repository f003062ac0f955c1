use Rattle.std.proofs.Common.{[], ◌∷◌, ◌++◌, ◌∙◌, ap, map}
use Rattle.conf_text.specs.Contents.{block_content}
use Rattle.conf_scopes.specs.Scopes.{ScopeContent}
use Rattle.conf_text.proofs.BlockLaws.{begun_last}
use Rattle.conf_text.proofs.blocks.begin.Goals as goal

pub returns : goal.returns
returns c =
    ap (map block_content) c.in_ok-insert.ensures.entries
    ∙ begun_last c.args.name c.empty.result c.args.blocks.now.entries c.requires
    ∙ ap (λ (scope : ScopeContent). map block_content c.args.blocks.now.entries ++ record { name = c.args.name; scope = scope } ∷ []) c.empty.ensures
