use Rattle.std.proofs.Common.{◌≡◌, ◌≤◌, length, arith, vec_len, refl}
use Rattle.std.proofs.lemmas.List.{take_all}
use Rattle.v4_message.proofs.writing.pad.Goals as goal

pub returns : goal.returns
returns c =
    let len : vec_len c.args.message.now ≡ length c.args.message.now.items = c.args.message.now.ok.0 in
    let small : length c.args.message.now.items ≤ 300 = omega arith in
    rw (c.in_ok-resize.ensures.items, take_all 300 c.args.message.now.items small, len) refl
