use Rattle.std.proofs.Common.{None, rules}
use Rattle.item_judge.proofs.TermTables.{put_at}
use Rattle.item_judge.proofs.terms.Terms.remove.Goals as goal

pub returns : goal.returns
returns c = λ other.
    let updates = rw c.place_of.ensures at c.remove.ensures.updates in
    put_at _ (λ a b. search rules) c.args.self.now.terms c.remove.new.self c.args.net None updates.0 other
