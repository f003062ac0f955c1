use Rattle.std.proofs.Common.{Some, ◌∙◌, ap, rules}
use Rattle.lease6_judge.specs.Terms as judge
use Rattle.lease6_judge.specs.Terms.{longer}
use Rattle.item_judge.specs.Tables.{term_content}
use Rattle.item_judge.proofs.TermTables.{longer_at, put_at}
use Rattle.item_judge.proofs.terms.Terms.extend.Goals as goal

pub returns-in-Ok : goal.returns-in-Ok
returns-in-Ok c = λ other.
    let updates = rw c.place_of.ensures at c.in-Ok.ensures.updates in
    put_at _ (λ a b. search rules) c.args.self.now.terms c.insert.new.self c.args.net (Some c.beside-longest.result) updates.0 other
    ∙ longer_at c.args.self.now c.args.net other c.args.term c.beside-longest.result
    (c.beside-longest.ensures ∙ ap (λ (t : judge.Term). longer (term_content (Some c.args.term)) t) c.term.ensures)
