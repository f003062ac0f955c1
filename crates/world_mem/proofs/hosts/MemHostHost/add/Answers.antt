use Rattle.world_mem.proofs.HostSteps.{after_add}
use Rattle.world_mem.proofs.hosts.MemHostHost.add.Goals as goal

pub invariant_of-self-2 : goal.invariant_of-self-2
invariant_of-self-2 c =
    after_add c.self.inside.first.items _ _ _ _ _ _ _ c.in_ok-small.ensures.ok c.next_fails.ensures.items c.accept.ensures.entered c.in-Ok.ensures.keys
    c.requires c.self.invariant
