use Rattle.std.proofs.Common.{rules, ◌≡◌, ◌++◌, [], ◌∷◌, sym, ◌∙◌, arith}
use Rattle.counted_search.proofs.Merges.{merged_there, merged_lacked}
use Rattle.counted_search.proofs.merge.beyond_into.Goals as goal

pub lacked-preserved-then-is_among : goal.lacked-preserved-then-is_among
lacked-preserved-then-is_among g c =
    let i = c.lacked.invariant in let among = c.is_among.ensures in
    record {
      merged =
          merged_there g.met.K.Ord.total c.args.keys.now c.args.others.now c.lacked.found.items c.lacked.key-index c.lacked.place c.key-item.result
          c.requires.keys c.lacked-test.true c.key-item.is
          i.merged c.is_among.new.place among.passed (sym among.answer ∙ c.if-is_among.true);
      filled = omega (arith, i.filled);
      room = i.room;
      within = among.within;
      grows = omega (arith, i.grows, among.grows);
      steps = omega (arith, i.steps, among.steps);
    }

pub lacked-preserved : goal.lacked-preserved
lacked-preserved g c =
    let i = c.lacked.invariant in let among = c.is_among.ensures in
    let new : c.push.new.self.items ≡ c.lacked.found.items ++ c.key-item.result ∷ [] = search rules in
    record {
      merged =
          merged_lacked g.met.K.Ord.total c.args.keys.now c.args.others.now c.lacked.found.items c.lacked.key-index c.lacked.place c.key-item.result
          c.requires.keys c.lacked-test.true c.key-item.is
          i.merged c.is_among.new.place among.passed c.push.new.self.items (sym among.answer ∙ c.if-is_among.false) new;
      filled = omega (arith, i.filled, c.push.ensures.upper_bound);
      room = omega (arith, i.room, c.push.ensures.capacity);
      within = among.within;
      grows = omega (arith, i.grows, among.grows);
      steps = omega (arith, i.steps, among.steps);
    }
