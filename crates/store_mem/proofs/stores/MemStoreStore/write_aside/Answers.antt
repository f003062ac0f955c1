use Rattle.store_mem.proofs.StoreSteps.{after_write}
use Rattle.store_mem.proofs.stores.MemStoreStore.write_aside.Goals as goal

pub invariant_of-self-2 : goal.invariant_of-self-2
invariant_of-self-2 c =
    after_write c.self.inside.first.items _ _ _ _ _ _ _ c.next_call.ensures.items c.in_ok-number.ensures.number c.self.invariant c.in_ok-copy.copy
    c.in_ok-aside.aside c.in_ok-written.written c.in_ok-content.content _ _ c.accept.ensures.entered c.in_ok-copy.ensures.ok c.in_ok-written.ensures.ok
    c.in_ok-aside.ensures.ok c.in_ok-content.ensures.ok c.requires c.in_ok-put.ensures.ok
