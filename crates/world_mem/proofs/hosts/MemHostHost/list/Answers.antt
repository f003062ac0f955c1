use Rattle.std.proofs.Common.{ap}
use Rattle.world_mem.proofs.HostSteps.{lists_rows}
use Rattle.world_mem.proofs.hosts.MemHostHost.list.Goals as goal

pub returns-clause-told : goal.returns-clause-told
returns-clause-told c =
    lists_rows c.self.inside.first.items _ _ _ _ _ _ c.args.self.now.told
    (ap (λ s. s.told) c.self.view_is) c.next_fails.ensures.items c.enter.ensures.items c.in-Ok.ensures.ok c.in-Ok.ensures.ordered c.self.invariant
