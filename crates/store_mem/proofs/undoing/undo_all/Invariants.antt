use Rattle.std.proofs.Common.{◌≡◌, map}
use Rattle.std.specs.BTreeMap.{btree_map_len}
use Rattle.world.specs.Undoing.{undone}
use Rattle.store_mem.specs.StoreRecord.{entry_file}
use Rattle.store_mem.specs.CrashRecord.{undos_of}
use Rattle.store_mem.proofs.undoing.undo_all.Given as goal

abbrev pub invariant-all : goal.invariant-all
invariant-all l = undone (undos_of l.left.entries) (map entry_file l.files.entries) ≡ undone (undos_of l.fn.undos.entries) (map entry_file l.fn.files.entries)

abbrev pub decreases-all : goal.decreases-all
decreases-all l = btree_map_len l.left
