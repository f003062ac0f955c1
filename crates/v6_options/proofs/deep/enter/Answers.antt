use Rattle.std.proofs.Common.{ℕ, List, Option, subst, ap}
use Rattle.v6_options.specs.Nesting.{or_else}
use Rattle.v6_options.specs.AreaSteps.{IsWhole, IsBadAt}
use Rattle.v6_options.proofs.Entering.{entered_whole, entered_bad}
use Rattle.v6_options.proofs.deep.enter.Goals as goal

pub returns-in-None-clause-judged : goal.returns-in-None-clause-judged
returns-in-None-clause-judged c =
    let whole = subst (λ (xs : List ℕ). IsWhole xs) c.held_in-held.ensures c.in-None.ensures in
    let entered = entered_whole c.args.cursor.rest.now c.args.fields c.args.len c.requires.fields c.requires.room c.args.cursor.at whole in
    rw c.after_header.ensures (ap (λ (o : Option ℕ). or_else o c.args.cursor.broken) entered)

pub returns-in-Some-clause-judged : goal.returns-in-Some-clause-judged
returns-in-Some-clause-judged c =
    let bad = subst (λ (xs : List ℕ). IsBadAt xs c.in-Some.place) c.held_in-held.ensures c.in-Some.ensures in
    let entered = entered_bad c.args.cursor.rest.now c.args.fields c.args.len c.args.cursor.at c.in-Some.place c.args.cursor.broken bad in
    rw (c.split_at.ensures.front, c.held_in-held.ensures) entered
