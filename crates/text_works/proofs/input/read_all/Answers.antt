use Rattle.std.proofs.Common.{◌≡◌, ◌+◌, ◌-◌, length, take, vec_len, subst, arith}
use Rattle.std.proofs.Math.Nat.{min-le_left, min-le_right}
use Rattle.std.proofs.lemmas.List.{length-take}
use Rattle.text_works.specs.Input.{CountsTaken, input_told}
use Rattle.text_works.proofs.Inputs.{counts_more, read_more, within_read, within_stopped}
use Rattle.text_works.proofs.input.read_all.Goals as goal

pub returns-in_err-n-clause-reads : goal.returns-in_err-n-clause-reads
returns-in_err-n-clause-reads g c =
    let all = c.pieces.all.ok in
    let room = min-le_right 65536 (16777217 - c.len-in-pieces.result) in
    let piece = min-le_left c.min-room.result (length c.deref_mut.result.now) in
    let so_many : vec_len c.pieces.all ≡ length c.pieces.all.items = omega (arith, all.0) in
    within_stopped (input_told (g.I.Source.left c.args.input.now) (g.I.Source.taken c.args.input.now) (g.I.Source.reads c.args.input.now))
    (input_told (g.I.Source.left c.pieces.input) (g.I.Source.taken c.pieces.input) (g.I.Source.reads c.pieces.input))
    (input_told (g.I.Source.left c.read_some.new.input) (g.I.Source.taken c.read_some.new.input) (g.I.Source.reads c.read_some.new.input))
    c.pieces.all.items (length (take c.min-room.result c.deref_mut.result.now))
    c.pieces.invariant.read
    (subst (λ n. CountsTaken n (g.I.Source.taken c.args.input.now) (g.I.Source.taken c.pieces.input)) so_many c.pieces.invariant.counted)
    c.in_err-n.ensures.taken
    (omega (
      arith,
      all.0,
      room,
      piece,
      c.min-room.ensures,
      c.len-in-pieces.ensures,
      c.pieces.invariant.length,
      length-take c.min-room.result c.deref_mut.result.now,
    ))
    (omega (arith, all.0, c.pieces.invariant.reads)) c.in_err-n.ensures.reads

pub returns-then-n-eq0-clause-reads : goal.returns-then-n-eq0-clause-reads
returns-then-n-eq0-clause-reads g c =
    let before = c.pieces.all.ok in
    let after = c.read_some.new.all.ok in
    let count = c.in_ok-n.ensures.count.0 in
    let so_many : vec_len c.pieces.all + c.in_ok-n.n ≡ length c.read_some.new.all.items = omega (arith, after.0, count) in
    within_read (input_told (g.I.Source.left c.args.input.now) (g.I.Source.taken c.args.input.now) (g.I.Source.reads c.args.input.now))
    (input_told (g.I.Source.left c.read_some.new.input) (g.I.Source.taken c.read_some.new.input) (g.I.Source.reads c.read_some.new.input))
    c.read_some.new.all.items
    (read_more (g.I.Source.left c.args.input.now) (g.I.Source.left c.pieces.input)
    (g.I.Source.left c.read_some.new.input) c.pieces.all.items c.read_some.new.all.items c.in_ok-n.n c.pieces.invariant.read c.in_ok-n.ensures.moved)
    (subst (λ n. CountsTaken n (g.I.Source.taken c.args.input.now) (g.I.Source.taken c.read_some.new.input)) so_many
    (counts_more (g.I.Source.taken c.args.input.now) (g.I.Source.taken c.pieces.input) (g.I.Source.taken c.read_some.new.input)
    (vec_len c.pieces.all) c.in_ok-n.n c.pieces.invariant.counted c.in_ok-n.ensures.counted))
    (omega (arith, after.0, count, c.if-n-eq0.true, c.pieces.invariant.length))
    (omega (arith, after.0, count, c.pieces.invariant.reads, c.in_ok-n.ensures.reads))
