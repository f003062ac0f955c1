use Rattle.std.proofs.Common.{◌<◌, ◌≤◌, ◌^◌, sym, arith}
use Rattle.prefix_share.proofs.SubnetBits.{answers, sum_is_address}
use Rattle.prefix_share.proofs.subnets.subnet.Goals as goal

pub overflow_add-result : goal.overflow_add-result
overflow_add-result c =
    let fits : c.args.prefix.ip.number < 2 ^ 128 = omega arith in
    let most : c.args.share.now.len ≤ 128 = omega (arith, c.requires.most) in
    let sum = sum_is_address c.args.prefix c.args.share.now _ _ fits most (sym c.if-not-has_room.ensures) c.network_number.ensures c.from.ensures in
    omega (arith, sum)

pub returns : goal.returns
returns c =
    let most : c.args.share.now.len ≤ 128 = omega (arith, c.requires.most) in
    answers c.args.prefix c.args.share.now _ _ most (sym c.if-not-has_room.ensures) c.network_number.ensures c.from.ensures
