-- What a crash leaves of a store in memory.
use Rattle.std.specs.Prelude.{[], List, map, option_map, String}
use Rattle.std.specs.Global.{Global}
use Rattle.std.specs.String.{string_bytes}
use Rattle.world.specs.FileLists.{StoreFile}
use Rattle.world.specs.StoreCalls.{StoreTold}
use Rattle.world.specs.Undoing.{Undo, Empties, Restores, UndoneFile, undone}
use Rattle.store_mem.specs.declared.crashes.Pick.{Pick}
use Rattle.store_mem.specs.declared.crashes.Pick.TheVariants.{Old, New}
use Rattle.store_mem.specs.declared.undoing.Undone.{Undone}
use Rattle.store_mem.specs.declared.undoing.Undone.TheVariants as runtime

-- the files that a crash leaves: all that isn't settled is undone, or it is as it reads
abbrev pub files_left : Pick → StoreTold → List StoreFile
files_left Old told = undone told.undo told.files
files_left New told = told.files

-- the next life finds these, of which nothing is unsettled; its calls go on
abbrev pub after_crash : Pick → StoreTold → StoreTold
after_crash pick told = record { files = files_left pick told; calls = told.calls; disk = []; undo = [] }

-- ---- the same in memory

abbrev pub undo_of : Undone → Undo
undo_of runtime.Empties = Empties
undo_of (runtime.Restores content) = Restores (option_map (λ bytes. bytes.items) content)

abbrev pub entry_undo : String Global × Undone → UndoneFile
entry_undo entry = record { name = string_bytes entry.0; undo = undo_of entry.1 }

abbrev pub undos_of : List (String Global × Undone) → List UndoneFile
undos_of entries = map entry_undo entries
