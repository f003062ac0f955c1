use Rattle.std.proofs.Common.{◌≡◌, IfSome, ap, length, option_map, rules, subst, sym, ◌∙◌}
use Rattle.net_types.specs.LineReading.{Gives}
use Rattle.net_types.proofs.LineSteps.{took_within}
use Rattle.net_types.proofs.ListLaws.{split_smaller}
use Rattle.transcript_read.specs.Bodies.{given, step}
use Rattle.transcript_read.specs.Contents.{ComesTo, no_state, reading_at, standing}
use Rattle.transcript_read.specs.Following.{Reaches}
use Rattle.transcript_read.proofs.LoopLaws.{all_gone, end_stops, goes_next, line_stops, unended_stops}
use Rattle.transcript_read.proofs.body.take_lines.Goals as goal

pub overflow_add-line : goal.overflow_add-line
overflow_add-line g c =
    let within = took_within (step no_state) _ _ _ _ _ c.lines.invariant.took in
    search rules

pub lines-smaller : goal.lines-smaller
lines-smaller g c = split_smaller 10 c.lines.rest.now c.in-Some.words.now c.in-Some.others.now (sym c.in-Some.ensures)

pub lines-preserved : goal.lines-preserved
lines-preserved g c =
    let Tells = g.F.Follower.Tells in
    let after = g.F.Follower.after in
    let takes = ap (option_map standing) (sym c.in-Some-2.is) ∙ c.in_ok-next.ensures.takes in
    goes_next Tells after c.args.start c.lines.state c.in-Some-2.next c.args.text.now c.lines.rest.now c.in-Some.words.now c.in-Some.others.now c.lines.line
    c.lines.invariant c.in-Some.ensures takes
    (λ state tells.
    subst (λ next. IfSome next (ComesTo Tells (step after (reading_at c.lines.state state) c.in-Some.words.now))) c.in-Some-2.is
    (c.in_ok-next.ensures.tells state tells))

pub returns-in-Some-end-clause-gives : goal.returns-in-Some-end-clause-gives
returns-in-Some-end-clause-gives g c = λ state tells.
    let none : length c.lines.rest.now ≡ 0 = search rules in
    subst (Reaches g.F.Follower.Tells (Gives (step g.F.Follower.after) given (reading_at c.args.start state) c.args.text.now)) (sym c.in-Some-end.ensures.same)
    (all_gone g.F.Follower.Tells g.F.Follower.after c.args.start c.lines.state c.args.text.now c.lines.rest.now c.lines.line c.lines.invariant none
    c.in-Some-end.ensures.some state tells)

pub returns-in_default-clause-stops : goal.returns-in_default-clause-stops
returns-in_default-clause-stops g c =
    let some : length c.lines.rest.now ≡ 0 → ⊥ = search rules in
    unended_stops no_state _ _ c.args.text.now c.lines.rest.now c.lines.line c.lines.invariant.took some c.in_default.ensures

pub returns-in_default-2-clause-stops : goal.returns-in_default-2-clause-stops
returns-in_default-2-clause-stops g c =
    let none = ap (option_map standing) (sym c.in_default-2.is) ∙ c.in_ok-next.ensures.takes in
    let rest = c.lines.rest.now in
    line_stops no_state _ _ c.args.text.now rest c.in-Some.words.now c.in-Some.others.now c.lines.line c.lines.invariant.took c.in-Some.ensures none

pub returns-in-None-clause-stops : goal.returns-in-None-clause-stops
returns-in-None-clause-stops g c =
    let none : length c.lines.rest.now ≡ 0 = search rules in
    end_stops no_state _ _ c.args.text.now c.lines.rest.now c.lines.line c.lines.invariant.took none (sym c.in-None.ensures.none)
