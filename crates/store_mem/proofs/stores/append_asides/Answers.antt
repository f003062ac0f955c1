use Rattle.std.proofs.Common.{ap, map, sym, ◌∙◌}
use Rattle.std.specs.String.{string_bytes}
use Rattle.world.specs.FileLists.{is_aside}
use Rattle.store_mem.proofs.StoreSteps.{one_found, found_back}
use Rattle.store_mem.proofs.stores.append_asides.Goals as goal

pub returns-in_default-clause-unchanged : goal.returns-in_default-clause-unchanged
returns-in_default-clause-unchanged c =
    rw (c.truncate.ensures.items, c.in_default.ensures.unchanged, c.len-before.ensures) (found_back _ _ _ _ _ c.args.names.now.ok.0 c.loop-name.invariant)

pub loop-name-preserved-in-Ok-1 : goal.loop-name-preserved-in-Ok-1
loop-name-preserved-in-Ok-1 c =
    one_found _ _ _ c.in-Ok.ensures.ok.0 _ _ _ (string_bytes c.in-Some.name.now) (ap (map string_bytes) c.in-Some.ensures.steps)
    (ap is_aside (sym c.deref.ensures) ∙ sym c.names_aside.ensures ∙ c.if-names_aside.true)
    c.in-Ok.ensures.ok.1 (c.in-Ok.ensures.ok.2 ∙ c.deref-then-names_aside.ensures) c.loop-name.invariant
