use Rattle.world_mem.proofs.HostSteps.{after_remove}
use Rattle.world_mem.proofs.hosts.MemHostHost.remove.Goals as goal

pub invariant_of-self-2 : goal.invariant_of-self-2
invariant_of-self-2 c =
    after_remove c.self.inside.first.items _ _ _ _ _ _ _ c.in_ok-small.ensures.ok c.next_fails.ensures.items c.accept.ensures.entered c.remove.ensures.keys
    c.self.invariant
