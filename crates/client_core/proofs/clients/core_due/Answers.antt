use Rattle.std.proofs.Common.{List, map, sym, ap, subst, ◌∙◌}
use Rattle.client_core.specs.Due.{AreMoments, dues_of}
use Rattle.client_model.specs.declared.interfaces.Iface.{Iface}
use Rattle.client_model.specs.Clients.{Client, client_due}
use Rattle.client_core.specs.Running.{IsRunning}
use Rattle.client_core.proofs.clients.core_due.Goals as goal

pub first_due-requires : goal.first_due-requires
first_due-requires c =
    let running = subst (IsRunning c.core.inside.ifaces.items) (sym c.deref.ensures) c.core.invariant in
    subst (λ (ifaces : List Iface). AreMoments (map dues_of ifaces) c.deref.result.now.dues) (sym c.deref-2.ensures.value) running.due

pub returns : goal.returns
returns c = c.first_due.ensures ∙ ap client_due c.deref-2.ensures.value ∙ ap (λ (client : Client). client_due client.ifaces) c.core.view_is
