use Rattle.std.proofs.Common.{◌≡◌, ap, sym, ◌∙◌}
use Rattle.hook_child.specs.Supervision.{Order, Idle, order_of, poll_order, after_poll}
use Rattle.life_asks.proofs.Hookings.{one_runs, abandons_so, idles_so, polled_gone, polled_on, gone_ran, known_gone, known_on}
use Rattle.life_devices.proofs.Successes.{if_ok}
use Rattle.life_devices.proofs.Begins.{on_err, err_so}
use Rattle.life_asks.proofs.BegunParts.{polls_begun, abandons_begun}
use Rattle.life_asks.proofs.hooks.poll_running.Goals as goal

pub polled-order-requires : goal.polled-order-requires
polled-order-requires g c = one_runs c.args.hooks.now c.args.number c.requires.number

pub abandon-requires : goal.abandon-requires
abandon-requires g c =
    let order : Order = order_of c.polled-order.result in
    c.in_ok-answer.ensures.child
    ∙ gone_ran c.in_ok-answer.answer c.args.at c.args.hooks.now.child order
    (c.polled-order.ensures.order ∙ ap (λ a. poll_order a c.args.at c.args.hooks.now.child) c.heard.ensures)
    (abandons_so order (sym c.is_abandon.ensures ∙ c.if-is_abandon.true))

pub returns-then-is_abandon-clause-does : goal.returns-then-is_abandon-clause-does
returns-then-is_abandon-clause-does g c =
    let order : Order = order_of c.polled-order.result in
    if_ok c.abandon.result
    (λ x did. polled_gone c.args.hooks.now c.polled-order.new.s c.args.number c.args.at c.in_ok-answer.answer order x _ _ _ _ _ _ c.requires.number
    c.in_ok-answer.ensures.does
    (c.polled-order.ensures.order ∙ ap (λ a. poll_order a c.args.at c.args.hooks.now.child) c.heard.ensures)
    (abandons_so order (sym c.is_abandon.ensures ∙ c.if-is_abandon.true))
    (c.polled-order.ensures.child ∙ ap (λ a. after_poll a c.args.at c.args.hooks.now) c.heard.ensures) did)
    c.abandon.ensures.does

pub returns-then-is_abandon-clause-child : goal.returns-then-is_abandon-clause-child
returns-then-is_abandon-clause-child g c =
    let order : Order = order_of c.polled-order.result in
    if_ok c.abandon.result
    (λ x _. c.abandon.ensures.child
    ∙ sym (known_gone c.args.hooks.now c.polled-order.new.s c.args.at c.in_ok-answer.answer order
    (c.polled-order.ensures.order ∙ ap (λ a. poll_order a c.args.at c.args.hooks.now.child) c.heard.ensures)
    (abandons_so order (sym c.is_abandon.ensures ∙ c.if-is_abandon.true))
    (c.polled-order.ensures.child ∙ ap (λ a. after_poll a c.args.at c.args.hooks.now) c.heard.ensures)))
    c.abandon.ensures.does

pub returns-clause-does : goal.returns-clause-does
returns-clause-does g c =
    let order : Order = order_of c.polled-order.result in
    let idles : order ≡ Idle =
    idles_so c.heard.result c.args.at c.args.hooks.now.child order c.polled-order.ensures.order (sym c.is_abandon.ensures ∙ c.if-is_abandon.false) in
    polled_on c.args.hooks.now c.polled-order.new.s c.args.number c.args.at c.in_ok-answer.answer order _ _ _ _ c.requires.number c.in_ok-answer.ensures.does
    (c.polled-order.ensures.order ∙ ap (λ a. poll_order a c.args.at c.args.hooks.now.child) c.heard.ensures) idles
    (c.polled-order.ensures.child ∙ ap (λ a. after_poll a c.args.at c.args.hooks.now) c.heard.ensures)

pub returns-clause-child : goal.returns-clause-child
returns-clause-child g c =
    let order : Order = order_of c.polled-order.result in
    let idles : order ≡ Idle =
    idles_so c.heard.result c.args.at c.args.hooks.now.child order c.polled-order.ensures.order (sym c.is_abandon.ensures ∙ c.if-is_abandon.false) in
    c.in_ok-answer.ensures.child
    ∙ sym (known_on c.args.hooks.now c.polled-order.new.s c.args.number c.args.at c.in_ok-answer.answer order c.requires.number
    (c.polled-order.ensures.order ∙ ap (λ a. poll_order a c.args.at c.args.hooks.now.child) c.heard.ensures) idles
    (c.polled-order.ensures.child ∙ ap (λ a. after_poll a c.args.at c.args.hooks.now) c.heard.ensures))

pub returns-in_err-answer-clause-begun : goal.returns-in_err-answer-clause-begun
returns-in_err-answer-clause-begun g c =
    on_err c.from_residual.result (polls_begun c.args.hooks.now c.args.number c.args.at c.requires.number _ _ c.in_err-answer.ensures.begun)

pub returns-then-is_abandon-clause-begun : goal.returns-then-is_abandon-clause-begun
returns-then-is_abandon-clause-begun g c =
    let order : Order = order_of c.polled-order.result in
    err_so c.abandon.result
    (λ begun. abandons_begun c.args.hooks.now c.args.number c.args.at c.requires.number c.in_ok-answer.answer order _ _ _ _ _ c.in_ok-answer.ensures.does
    (c.polled-order.ensures.order ∙ ap (λ a. poll_order a c.args.at c.args.hooks.now.child) c.heard.ensures)
    (abandons_so order (sym c.is_abandon.ensures ∙ c.if-is_abandon.true)) begun)
    c.abandon.ensures.begun
