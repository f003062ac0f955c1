use Rattle.std.proofs.Common.{◌≡◌, ◌+◌, ◌-◌, ◌/◌, sym, arith}
use Rattle.std.specs.declared.cmp.Ordering.TheVariants.{Less, Greater}
use Rattle.counted_search.proofs.Halving.{read_at, from_less, from_greater, one_step}
use Rattle.counted_search.proofs.search.find.Goals as goal

pub halves-preserved-in-Less : goal.halves-preserved-in-Less
halves-preserved-in-Less g c =
    let keys = c.args.keys.now in let ord = λ (other : g.row.K.Denot). g.K.Ord.cmp other c.args.key.now in
    let low = c.halves.low in let high = c.halves.high in let middle = low + (high - low) / 2 in
    let i = c.halves.invariant in
    record {
      ordered = omega arith;
      within = omega arith;
      narrowed =
          from_less ord keys low high middle (omega arith) i.narrowed
          (read_at (λ y. ord y ≡ Less) keys middle c.index-keys-middle.result (omega arith) c.index-keys-middle.is (sym c.in-Less.ensures.order));
      grows = omega (arith, c.compare.ensures.grows);
      enough =
          λ n short. one_step (high - low) (high - (middle + 1)) c.halves.steps c.compare.new.self _ (omega arith) (omega arith)
          (omega (arith, c.compare.ensures.one)) (i.enough n short);
    }

pub halves-preserved : goal.halves-preserved
halves-preserved g c =
    let keys = c.args.keys.now in let ord = λ (other : g.row.K.Denot). g.K.Ord.cmp other c.args.key.now in
    let low = c.halves.low in let high = c.halves.high in let middle = low + (high - low) / 2 in
    let i = c.halves.invariant in
    record {
      ordered = omega arith;
      within = omega arith;
      narrowed =
          from_greater ord keys low high middle i.narrowed
          (read_at (λ y. ord y ≡ Greater) keys middle c.index-keys-middle.result (omega arith) c.index-keys-middle.is (sym c.in-Greater.ensures.order));
      grows = omega (arith, c.compare.ensures.grows);
      enough =
          λ n short. one_step (high - low) (middle - low) c.halves.steps c.compare.new.self _ (omega arith) (omega arith) (omega (arith, c.compare.ensures.one))
          (i.enough n short);
    }
