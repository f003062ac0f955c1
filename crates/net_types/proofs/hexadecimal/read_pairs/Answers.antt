use Rattle.std.proofs.Common.{◌≡◌, Ok, Err, rules, true}
use Rattle.net_types.specs.HexText.{lacks_capitals}
use Rattle.net_types.proofs.HexBlocks.{written}
use Rattle.net_types.proofs.hexadecimal.read_pairs.Goals as goal

pub returns-in-Ok : goal.returns-in-Ok
returns-in-Ok c =
    let small : lacks_capitals c.args.pairs.now ≡ true = search rules in
    written c.args.pairs.now _ (Ok tt) c.decode_to_slice.new.out small c.requires c.in-Ok.ensures.value

pub returns-in-Err : goal.returns-in-Err
returns-in-Err c =
    let small : lacks_capitals c.args.pairs.now ≡ true = search rules in
    written c.args.pairs.now _ (Err c.in-Err.field-0) c.decode_to_slice.new.out small c.requires c.in-Err.ensures.value
