use Rattle.std.proofs.Common.{◌+◌, ◌*◌}
use Rattle.resolver_text.specs.Parts.{part_content}
use Rattle.client_core.proofs.ToldLaws.{compares_put, parts_put}
use Rattle.client_core.proofs.told_parts.put_parts.Goals as goal

pub returns-clause-parts : goal.returns-clause-parts
returns-clause-parts c =
    parts_put c.args.parts.now (2 * c.args.place) (2 * c.args.place + 1) c.renew_part-first.new.kept c.renew_part-last.new.kept (part_content c.args.four)
    (part_content c.args.six)
    c.renew_part-first.ensures.part c.renew_part-last.ensures.part

pub returns-clause-compares : goal.returns-clause-compares
returns-clause-compares c =
    compares_put c.renew_part-first.result c.renew_part-last.result c.or.result c.args.parts.now
    (2 * c.args.place) c.renew_part-first.new.kept c.renew_part-last.new.kept
    c.index-parts-place.result c.index-parts-place-2.result (part_content c.args.four) (part_content c.args.six) c.requires c.or.ensures
    c.renew_part-first.ensures.part c.renew_part-last.ensures.part c.renew_part-first.ensures.compares c.renew_part-last.ensures.compares
