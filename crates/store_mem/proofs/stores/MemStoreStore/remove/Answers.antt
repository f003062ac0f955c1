use Rattle.store_mem.proofs.StoreSteps.{after_remove}
use Rattle.store_mem.proofs.stores.MemStoreStore.remove.Goals as goal

pub invariant_of-self-2 : goal.invariant_of-self-2
invariant_of-self-2 c =
    after_remove c.self.inside.first.items _ _ _ _ _ _ _ c.next_call.ensures.items c.in_ok-number.ensures.number c.self.invariant _ _ c.accept.ensures.entered
    c.in_ok-copy.ensures.ok c.take_out.ensures
