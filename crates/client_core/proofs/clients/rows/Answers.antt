use Rattle.std.proofs.Common.{ap, subst, sym, ◌∙◌}
use Rattle.client_model.specs.Clients.{rows_of}
use Rattle.client_core.specs.Running.{IsRunning}
use Rattle.client_core.proofs.Going.{wanted_here}
use Rattle.client_core.proofs.clients.rows.Goals as goal

pub returns-clause-rows : goal.returns-clause-rows
returns-clause-rows c =
    let running = subst (IsRunning c.core.inside.ifaces.items) (sym c.deref.ensures) c.core.invariant in
    c.wanted.ensures.rows ∙ wanted_here c.core.inside.ifaces.items c.deref.result.now running ∙ ap rows_of c.core.view_is
