use Rattle.store_mem.specs.StoreRecord.{told_after}
use Rattle.store_mem.proofs.CrashSteps.{old_named}
use Rattle.store_mem.proofs.replaying.left_files.Goals as goal

pub returns-in-Old-clause-named : goal.returns-in-Old-clause-named
returns-in-Old-clause-named c = old_named (told_after c.args.first.now c.args.calls.now) c.old_files.result c.old_files.ensures.files c.old_files.ensures.named
