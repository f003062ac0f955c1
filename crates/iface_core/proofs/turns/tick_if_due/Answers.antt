use Rattle.std.proofs.Common.{ℕ, Option, sym, ap, ◌∙◌}
use Rattle.machine.specs.Moment.{is_due}
use Rattle.client_model.specs.Interfaces.{machine_ticked}
use Rattle.iface_machines.specs.Outcomes.{asked_in}
use Rattle.iface_machines.proofs.Following.{goes_quiet, not_due}
use Rattle.iface_core.proofs.turns.tick_if_due.Goals as goal

pub returns-else-has_come-clause-goes : goal.returns-else-has_come-clause-goes
returns-else-has_come-clause-goes c =
    goes_quiet (machine_ticked c.args.machine c.args.turn.now.at c.args.turn.now.salt c.args.iface.now) c.args.iface.now (asked_in c.args.outs.now)
    (not_due c.args.machine c.args.turn.now.at c.args.turn.now.salt c.args.iface.now
    (sym (c.has_come.ensures ∙ ap (λ (due : Option ℕ). is_due due c.args.turn.now.at) c.look.ensures.due) ∙ c.if-has_come.false))
