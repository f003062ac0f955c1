use Rattle.std.proofs.Common.{◌≡◌, [], ◌∷◌, ◌∙◌, sym, rules}
use Rattle.v6_options.specs.IaViews.{ia_shown, ias_left}
use Rattle.item_judge.proofs.OwnWalks.{left_there, taken_next, without_ias}
use Rattle.item_judge.proofs.own.left_after.Goals as goal

pub returns-in_default : goal.returns-in_default
returns-in_default c = λ asks.
    let none : ias_left c.args.ias ≡ [] = search rules in
    without_ias c.args.ask asks (ias_left c.args.ias) none

pub returns-then-is_given_back : goal.returns-then-is_given_back
returns-then-is_given_back c = λ asks.
    let front : ias_left c.args.ias ≡ ia_shown c.in-Some.ia ∷ ias_left c.next.new.self = search rules in
    taken_next c.args.ask asks (ia_shown c.in-Some.ia) (ias_left c.next.new.self) (ias_left c.args.ias) front
    (sym c.is_given_back.ensures ∙ c.if-is_given_back.true)

pub returns : goal.returns
returns c = λ asks.
    let front : ias_left c.args.ias ≡ ia_shown c.in-Some.ia ∷ ias_left c.next.new.self = search rules in
    left_there c.args.ask asks (ia_shown c.in-Some.ia) (ias_left c.next.new.self) (ias_left c.args.ias) front
    (sym c.is_given_back.ensures ∙ c.if-is_given_back.false)
