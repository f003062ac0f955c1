use Rattle.std.proofs.Common.{rules, ◌≡◌, ◌∷◌, ◌++◌, [], ap}
use Rattle.store_mem.specs.declared.stores.StoreEntry.TheVariants.{Crash}
use Rattle.store_mem.proofs.CrashSteps.{crash_holds, crash_left}
use Rattle.store_mem.proofs.stores.MemStore.after_crash.Goals as goal

pub invariant_of-result : goal.invariant_of-result
invariant_of-result c =
    let entered : c.enter.new.entries.items ≡ c.self.inside.calls.items ++ Crash c.args.pick ∷ [] = search rules in
    crash_holds c.self.inside.first.items c.self.inside.calls.items _ c.args.pick c.self.inside.files.entries c.in_ok-files.files.entries c.self.inside.answered
    entered c.self.invariant
    (search rules) (search rules)

pub returns-clause-image : goal.returns-clause-image
returns-clause-image c =
    let entered : c.enter.new.entries.items ≡ c.self.inside.calls.items ++ Crash c.args.pick ∷ [] = search rules in
    crash_left c.self.inside.first.items c.self.inside.calls.items _ c.args.pick c.args.self.told (ap (λ s. s.told) c.self.view_is) entered
