use Rattle.std.proofs.Common.{◌≡◌, ◌∷◌, rules, subst, true}
use Rattle.net_types.specs.Sum.{ones_add, ones_sum}
use Rattle.net_types.specs.Marks.{AreBytes}
use Rattle.net_types.proofs.Checksum.{even_more, odd_more, fit_bytes, rest_bytes}
use Rattle.net_types.proofs.sum.calls.sum_add.Goals as goal

pub returns-then-not-sum : goal.returns-then-not-sum
returns-then-not-sum c bytes before =
    even_more c.args.sum.now c.add_words.new.sum bytes c.args.piece.now before (fit_bytes c.args.piece.now c.type_inv.piece) c.if-not-sum.true
    c.add_words.ensures.total c.add_words.ensures.odd

pub returns-in-Some : goal.returns-in-Some
returns-in-Some c bytes before =
    let parts : c.args.piece.now ≡ c.in-Some.low.now ∷ c.in-Some.rest.now = search rules in
    let all : AreBytes (c.in-Some.low.now ∷ c.in-Some.rest.now) = subst AreBytes parts (fit_bytes c.args.piece.now c.type_inv.piece) in
    let half : c.args.sum.now.odd ≡ true = search rules in
    let total : c.add_words-in-Some.new.sum.total ≡ ones_add (ones_add c.args.sum.now.total c.in-Some.low.now) (ones_sum c.in-Some.rest.now) = cc in
    rw parts (odd_more c.args.sum.now c.add_words-in-Some.new.sum bytes c.in-Some.low.now c.in-Some.rest.now before (all 0)
    (rest_bytes c.in-Some.low.now c.in-Some.rest.now all) half total c.add_words-in-Some.ensures.odd)
