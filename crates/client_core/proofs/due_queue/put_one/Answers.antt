use Rattle.std.proofs.Common.{ℕ, ◌+◌, ◌*◌, subst}
use Rattle.client_core.proofs.Putting.{PutsOne, put_some, put_none}
use Rattle.client_core.proofs.due_queue.put_one.Goals as goal

pub returns-in-Some : goal.returns-in-Some
returns-in-Some c =
    subst (λ (rank : ℕ). PutsOne (c.args.place * 3 + rank) c.args.due c.args.queue.now c.set.new.self) c.rank.ensures
    (put_some c.args.queue.now c.set.new.self (c.args.place * 3 + c.rank.result) c.in-Some.at c.args.due c.in-Some.is c.set.ensures.set)

pub returns-in-None : goal.returns-in-None
returns-in-None c =
    subst (λ (rank : ℕ). PutsOne (c.args.place * 3 + rank) c.args.due c.args.queue.now c.clear.new.self) c.rank.ensures
    (put_none c.args.queue.now c.clear.new.self (c.args.place * 3 + c.rank.result) c.args.due c.in-None.is c.clear.ensures.cleared)
