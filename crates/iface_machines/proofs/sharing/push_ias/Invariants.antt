use Rattle.std.proofs.Common.{◌≡◌, ◌++◌, map, take, flat_map}
use Rattle.lease6_text.specs.Leases.{ias_content}
use Rattle.client_model.specs.Jobs.{ia_told}
use Rattle.iface_machines.specs.Outcomes.{told_content}
use Rattle.iface_machines.proofs.sharing.push_ias.Given as goal

abbrev pub invariant-loop-ia : goal.invariant-loop-ia
invariant-loop-ia l =
    map told_content l.told.items ≡ map told_content l.fn.told.items ++ flat_map (ia_told l.shares) (ias_content (take l.ia-index l.ias))
