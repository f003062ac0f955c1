use Rattle.std.proofs.Common.{◌∙◌, ap}
use Rattle.store_mem.specs.CrashRecord.{undos_of}
use Rattle.store_mem.proofs.UndoMaps.{undo_drop}
use Rattle.store_mem.proofs.undoing.leave_one.Goals as goal

pub returns : goal.returns
returns c = ap undos_of c.remove.ensures.entries ∙ undo_drop c.args.name.now c.args.undos.now.entries
