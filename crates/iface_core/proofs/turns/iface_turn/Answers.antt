use Rattle.std.proofs.lemmas.Result.{on_ok_weaker}
use Rattle.std.proofs.Common.{sym, ap, subst, ◌∙◌}
use Rattle.settings.specs.Fitting.{FitsManaged}
use Rattle.client_model.specs.declared.interfaces.Iface.{Iface}
use Rattle.client_model.specs.IfaceSteps.{IfaceStep}
use Rattle.client_model.specs.Interfaces.{ticked, unsent_in}
use Rattle.client_model.specs.IfaceTurns.{Turn, input_step}
use Rattle.iface_machines.specs.Inputs.{turn_of}
use Rattle.iface_machines.specs.Outcomes.{Goes, asked_in}
use Rattle.client_model.proofs.SameInterfaces.{input_same, ticked_same, unsent_same}
use Rattle.iface_machines.proofs.Following.{fits_after, goes_then}
use Rattle.iface_core.proofs.turns.iface_turn.Goals as goal

pub returns-clause-goes : goal.returns-clause-goes
returns-clause-goes c =
    let turn : Turn = turn_of c.args.turn.now in
    let first : IfaceStep = ticked turn.at turn.salt (unsent_in turn.unsent turn.at turn.salt c.args.iface.now) in
    let input : (Iface → IfaceStep) = input_step c.args.own.now turn.at turn.salt turn.event turn.bytes in
    let ticks : Goes first c.tick_machines.new.iface (asked_in c.args.outs.now) (asked_in c.tick_machines.new.outs) =
    subst (λ (iface : Iface). Goes (ticked turn.at turn.salt iface) c.tick_machines.new.iface (asked_in c.args.outs.now) (asked_in c.tick_machines.new.outs))
    c.restart.ensures c.in_ok-tick_machines.ensures.goes in
    on_ok_weaker c.iface_input.result
    (goes_then first input c.tick_machines.new.iface c.iface_input.new.iface (asked_in c.args.outs.now) (asked_in c.tick_machines.new.outs)
    (asked_in c.iface_input.new.outs)
    (input_same c.args.own.now turn.at turn.salt turn.event turn.bytes first.iface) ticks)
    c.iface_input.ensures

pub tick_machines-requires-clause-fits : goal.tick_machines-requires-clause-fits
tick_machines-requires-clause-fits c =
    let turn : Turn = turn_of c.args.turn.now in
    subst FitsManaged
    (sym (ap (λ (i : Iface). i.managed) c.restart.ensures ∙ (unsent_same turn.unsent turn.at turn.salt c.args.iface.now).managed)) c.requires.fits

pub iface_input-requires-clause-fits : goal.iface_input-requires-clause-fits
iface_input-requires-clause-fits c =
    let turn : Turn = turn_of c.args.turn.now in
    fits_after (ticked turn.at turn.salt c.restart.new.iface) c.restart.new.iface c.tick_machines.new.iface (asked_in c.args.outs.now)
    (asked_in c.tick_machines.new.outs)
    (ticked_same turn.at turn.salt c.restart.new.iface) c.in_ok-tick_machines.ensures.goes
    (subst FitsManaged
    (sym (ap (λ (i : Iface). i.managed) c.restart.ensures ∙ (unsent_same turn.unsent turn.at turn.salt c.args.iface.now).managed)) c.requires.fits)
