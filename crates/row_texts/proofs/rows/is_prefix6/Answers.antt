use Rattle.std.proofs.Common.{◌<◌, ◌≤◌, ◌^◌, arith}
use Rattle.std.proofs.Math.Nat.{pow-le-pow_right}
use Rattle.row_texts.proofs.rows.is_prefix6.Goals as goal

pub pow-requires : goal.pow-requires
pow-requires c =
    let few : c.from.result ≤ 127 = omega (arith, c.from.ensures, c.saturating_sub-past.ensures, c.if-len-eq0.false) in
    let two : 0 < 2 = omega arith in
    let most : 2 ^ c.from.result ≤ 2 ^ 127 = pow-le-pow_right two few in
    omega (arith, most)
