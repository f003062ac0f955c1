use Rattle.std.proofs.Common.{◌≡◌, ◌++◌, map, take, flat_map}
use Rattle.prefix_share.specs.Subnets.{subnet_in}
use Rattle.client_model.specs.Jobs.{shared_address}
use Rattle.iface_machines.specs.Outcomes.{told_content}
use Rattle.iface_machines.proofs.sharing.push_prefix.Given as goal

abbrev pub invariant-loop-share : goal.invariant-loop-share
invariant-loop-share l =
    map told_content l.told.items
    ≡ map told_content l.fn.told.items ++ flat_map (λ share. shared_address share (subnet_in l.prefix share.share)) (take l.share-index l.shares)
