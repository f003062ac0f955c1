use Rattle.std.proofs.Common.{ap, ◌∙◌, Some}
use Rattle.world.specs.FileLists.{asides}
use Rattle.store_mem.specs.StoreRecord.{told_after}
use Rattle.store_mem.proofs.StoreSteps.{asides_told, asides_named, listed, names_told}
use Rattle.store_mem.proofs.stores.MemStoreStore.list_asides.Goals as goal

pub returns-clause-names : goal.returns-clause-names
returns-clause-names c =
    let found = c.in_ok-append_asides.ensures.ok in (
      found.0,
      found.1,
      asides_named
          (told_after c.self.inside.first.items c.self.inside.calls.items) c.self.inside.files.entries found.0 c.self.invariant.files c.self.invariant.names
          found.2,
    )

pub returns-clause-told : goal.returns-clause-told
returns-clause-told c =
    let found = c.in_ok-append_asides.ensures.ok in (
      names_told c.args.names.now.items c.append_asides.new.names.items found.0 _ found.1
          (found.2 ∙ asides_told (told_after c.self.inside.first.items c.self.inside.calls.items) c.self.inside.files.entries c.self.invariant.files
          ∙ ap (λ s. asides s.told.files) c.self.view_is),
      ap Some (listed c.self.inside.first.items c.args.self.now.told _ _ _ (ap (λ s. s.told) c.self.view_is) c.next_call.ensures.items c.enter.ensures.items),
    )
