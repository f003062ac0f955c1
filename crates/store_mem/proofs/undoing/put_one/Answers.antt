use Rattle.std.proofs.Common.{◌∙◌, ap}
use Rattle.store_mem.specs.CrashRecord.{undos_of}
use Rattle.store_mem.proofs.UndoMaps.{undo_put}
use Rattle.store_mem.proofs.undoing.put_one.Goals as goal

pub returns-in-Ok : goal.returns-in-Ok
returns-in-Ok c = ap undos_of c.in-Ok.ensures.entries ∙ undo_put c.args.name c.args.undone c.args.undos.now.entries
