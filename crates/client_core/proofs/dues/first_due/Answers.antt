use Rattle.std.proofs.Common.{ap, ◌∙◌}
use Rattle.client_model.specs.Clients.{earlier}
use Rattle.client_core.proofs.Earliest.{first_of_all}
use Rattle.client_core.proofs.dues.first_due.Goals as goal

pub returns : goal.returns
returns c =
    c.earlier_of.ensures ∙ ap (earlier c.first.result) c.earliest_of.ensures
    ∙ first_of_all c.args.ifaces.now c.args.dues.now c.requires c.first.result c.min.result c.first.ensures c.min.ensures
