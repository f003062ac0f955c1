-- The names of the files that a store holds at first.
use Rattle.std.proofs.Common.{◌≡◌, List, map, sym, subst}
use Rattle.std.specs.Prelude.{All}
use Rattle.std.specs.String.{string_bytes}
use Rattle.std.proofs.lemmas.List.Elements.{recursion_from_All, All-from_recursion}
use Rattle.net_types.proofs.AllLaws.{all_map, all_mapped}
use Rattle.world.specs.FileLists.{StoreFile}
use Rattle.world.specs.FileNames.{IsFileName}
use Rattle.world_mem.specs.StoreMem.declared.stores.MemFile.{MemFile}
use Rattle.world_mem.specs.StoreMem.StoreRecord as stores
use Rattle.script_model.specs.FirstFiles.{FitsFile}

pub names_held : (files : List StoreFile) (held : List MemFile) → map stores.file_of held ≡ files → All FitsFile files
    → All (λ (file : MemFile). IsFileName (string_bytes file.name)) held
names_held files held same fits =
    All-from_recursion (λ (file : MemFile). IsFileName (string_bytes file.name)) held
    (all_map (λ (file : MemFile). FitsFile (stores.file_of file)) (λ (file : MemFile). IsFileName (string_bytes file.name)) (λ file fit. fit.name) held
    (all_mapped FitsFile stores.file_of held (recursion_from_All FitsFile (map stores.file_of held) (subst (All FitsFile) (sym same) fits))))
