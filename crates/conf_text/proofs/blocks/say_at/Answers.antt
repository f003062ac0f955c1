use Rattle.std.proofs.lemmas.Result.{on_ok_weaker}
use Rattle.conf_directives.specs.Contents.{directive_content}
use Rattle.conf_text.proofs.BlockLaws.{fits_there, said_within}
use Rattle.conf_text.proofs.blocks.say_at.Goals as goal

pub say-requires : goal.say-requires
say-requires c =
    fits_there (directive_content c.args.directive) c.args.blocks.now.entries c.args.place c.index_mut.result.now c.index_mut.ensures.value c.requires

pub returns-then-place-len : goal.returns-then-place-len
returns-then-place-len c =
    on_ok_weaker c.say.result
    (said_within
    (directive_content c.args.directive) c.args.blocks.now.entries c.args.place c.index_mut.result.now c.say.new.self c.index_mut.ensures.value)
    c.say.ensures
