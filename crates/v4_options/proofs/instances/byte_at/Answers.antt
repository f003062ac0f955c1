use Rattle.std.proofs.Common.{◌≡◌, ◌<◌, true, false, length, arith, eqb}
use Rattle.std.proofs.lemmas.Bool.{eqb-false}
use Rattle.std.specs.Option.{is_some}
use Rattle.v4_options.proofs.OnlyByte.{too_long, too_many, one_more}
use Rattle.v4_options.proofs.instances.byte_at.Goals as goal

pub returns-then-piece-gt1 : goal.returns-then-piece-gt1
returns-then-piece-gt1 c =
    too_long _ _ _ _ _ c.in-Some.ensures.steps c.pieces.invariant c.if-piece-gt1.true

pub returns-then-is_some : goal.returns-then-is_some
returns-then-is_some c =
    let told : is_some c.pieces.only ≡ true = cc in
    let filled : eqb (length c.in-Some.piece.now) 0 ≡ false = cc in
    let some : 0 < length c.in-Some.piece.now = omega (arith, eqb-false _ _ filled) in
    too_many _ _ _ _ _ c.in-Some.ensures.steps c.pieces.invariant told some

pub pieces-preserved : goal.pieces-preserved
pieces-preserved c =
    let untold : is_some c.pieces.only ≡ false = cc in
    let filled : eqb (length c.in-Some.piece.now) 0 ≡ false = cc in
    let some : 0 < length c.in-Some.piece.now = omega (arith, eqb-false _ _ filled) in
    one_more _ _ _ _ _ c.in-Some.ensures.steps c.pieces.invariant untold some c.if-piece-gt1.false
