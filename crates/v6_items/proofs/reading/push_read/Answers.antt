use Rattle.std.proofs.Common.{◌≡◌, [], length, sym, arith}
use Rattle.std.specs.List.{cons_option}
use Rattle.v6_items.specs.Reading.{read_item}
use Rattle.v6_items.proofs.GrownLists.{take_full}
use Rattle.v6_items.proofs.reading.push_read.Goals as goal

pub returns-then-len-ge-ITEM_LIMIT-clause-saids : goal.returns-then-len-ge-ITEM_LIMIT-clause-saids
returns-then-len-ge-ITEM_LIMIT-clause-saids c =
    let four : length c.args.saids.now.items ≡ 4 = omega (arith, c.requires) in
    sym (take_full 4 c.args.saids.now.items (cons_option (read_item c.args.kind c.args.said) []) four)
