use Rattle.std.proofs.Common.{ℕ, List, [], ◌∷◌, subst}
use Rattle.script_model.specs.Lines as lines
use Rattle.device_calls.specs.Calls.{Offer}
use Rattle.device_calls.specs.Does.{One}
use Rattle.device_calls.specs.Printing.{Prints}
use Rattle.device_calls.proofs.Doing.{does_one}
use Rattle.device_calls.specs.Programs.{Done, Then}
use Rattle.device_calls.proofs.Begun.{begun_none, begun_one}
use Rattle.life_devices.proofs.Begins.{on_err}
use Rattle.life_asks.proofs.sends.offer.Goals as goal

pub returns-clause-does : goal.returns-clause-does
returns-clause-does g c =
    does_one (Offer c.args.sending.now.iface.number c.args.sending.now.bytes.items) c.in_ok-taken.taken _ _ _ _
    (subst
    (λ (frame : List ℕ). One (Offer c.args.sending.now.iface.number frame) c.in_ok-taken.taken (g.W.Outside.seen c.args.outside.now)
    (g.W.Outside.seen c.offer.new.self))
    c.deref.ensures.value c.in_ok-taken.ensures.one)
    (subst
    (λ (frame : List ℕ). Prints c.args.text.now.items c.say_send.new.text.items (lines.Send c.args.sending.now.iface frame c.in_ok-taken.taken ∷ []))
    c.deref-2.ensures.value c.in_ok-say_send.ensures)

pub returns-in_err-taken-clause-begun : goal.returns-in_err-taken-clause-begun
returns-in_err-taken-clause-begun g c =
    on_err c.from_residual.result
    (begun_none (Then (Offer c.args.sending.now.iface.number c.args.sending.now.bytes.items) Done) _ _ c.in_err-taken.ensures.memory)

pub returns-in_err-say_send-clause-begun : goal.returns-in_err-say_send-clause-begun
returns-in_err-say_send-clause-begun g c =
    on_err c.from_residual-in_err-say_send.result
    (begun_one (Offer c.args.sending.now.iface.number c.args.sending.now.bytes.items) c.in_ok-taken.taken _ _
    (subst
    (λ (frame : List ℕ). One (Offer c.args.sending.now.iface.number frame) c.in_ok-taken.taken (g.W.Outside.seen c.args.outside.now)
    (g.W.Outside.seen c.offer.new.self))
    c.deref.ensures.value c.in_ok-taken.ensures.one))
