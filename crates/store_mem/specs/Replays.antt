-- The record of a store's calls, gone through once more.
use Rattle.std.specs.Prelude.{◌≡◌, List, map}
use Rattle.world.specs.FileLists.{StoreFile}
use Rattle.world.specs.StoreCalls.{StoreTold}
use Rattle.world.specs.Undoing.{UndoneFile}
use Rattle.store_mem.specs.declared.replaying.Replay.{Replay}
use Rattle.store_mem.specs.CrashRecord.{undos_of}
use Rattle.store_mem.specs.StoreRecord.{entry_file}

abbrev pub files_in : Replay → List StoreFile
files_in replay = map entry_file replay.files.entries

abbrev pub undo_in : Replay → List UndoneFile
undo_in replay = undos_of replay.undos.entries

-- what is held is what is told
pub record Mirrors (replay : Replay) (told : StoreTold) : Type 0 where
  pub files : files_in replay ≡ told.files
  pub undo : undo_in replay ≡ told.undo
