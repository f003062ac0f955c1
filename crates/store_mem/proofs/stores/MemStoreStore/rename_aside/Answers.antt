use Rattle.store_mem.proofs.StoreSteps.{after_rename}
use Rattle.store_mem.proofs.stores.MemStoreStore.rename_aside.Goals as goal

pub invariant_of-self-2 : goal.invariant_of-self-2
invariant_of-self-2 c =
    after_rename c.self.inside.first.items _ _ _ _ _ _ _ c.next_call.ensures.items c.in_ok-number.ensures.number c.self.invariant c.in_ok-copy.copy _
    c.accept.ensures.entered c.in_ok-copy.ensures.ok c.requires c.in_ok-there.ensures.ok.1
