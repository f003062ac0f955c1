use Rattle.std.proofs.Common.{rules, ◌≡◌, ◌∷◌, ◌++◌, [], ap, sym, ◌∙◌}
use Rattle.world.specs.Undoing.{undone}
use Rattle.store_mem.specs.CrashRecord.{undos_of}
use Rattle.store_mem.proofs.UndoMaps.{undo_step}
use Rattle.store_mem.proofs.undoing.undo_all.Goals as goal

pub all-preserved : goal.all-preserved
all-preserved c =
    let popped : c.all.left.entries ≡ c.pop_last.new.self.entries ++ (c.in-Some.name, c.in-Some.undone) ∷ [] = search rules in
    ap (undone (undos_of c.pop_last.new.self.entries)) c.in_ok-set_one.ensures
    ∙ sym (undo_step c.all.left.entries c.pop_last.new.self.entries (c.in-Some.name, c.in-Some.undone) _ popped) ∙ c.all.invariant
