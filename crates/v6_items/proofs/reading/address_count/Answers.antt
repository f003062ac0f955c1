use Rattle.std.proofs.Common.{◌<◌, ◌≤◌, ◌^◌, arith}
use Rattle.std.proofs.Math.Nat.{pow-le-pow_right}
use Rattle.v6_items.proofs.reading.address_count.Goals as goal

pub pow-requires : goal.pow-requires
pow-requires c =
    let few : c.from.result ≤ 127 = omega (arith, c.from.ensures, c.saturating_sub.ensures, c.requires) in
    let two : 0 < 2 = omega arith in
    let most : 2 ^ c.from.result ≤ 2 ^ 127 = pow-le-pow_right two few in
    omega (arith, most)
