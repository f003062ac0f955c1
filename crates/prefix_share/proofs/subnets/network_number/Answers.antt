use Rattle.std.proofs.Common.{◌<◌, ◌^◌, arith}
use Rattle.prefix_share.proofs.SubnetNumbers.{first_address}
use Rattle.prefix_share.proofs.subnets.network_number.Goals as goal

pub returns : goal.returns
returns c =
    let fits : c.args.prefix.ip.number < 2 ^ 128 = omega arith in
    first_address c.args.prefix.ip.number c.args.prefix.len c.requires fits
