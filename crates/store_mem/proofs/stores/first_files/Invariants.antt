use Rattle.std.proofs.Common.{◌≡◌, All, map, drop}
use Rattle.std.specs.String.{string_bytes}
use Rattle.world.specs.FileNames.{IsFileName}
use Rattle.store_mem.specs.StoreRecord.{entry_file, file_of, put_files, in_name_order}
use Rattle.store_mem.proofs.stores.first_files.Given as goal

abbrev pub invariant-loop-file : goal.invariant-loop-file
invariant-loop-file l =
    (put_files (map entry_file l.held.entries) (map file_of (drop l.file-index l.files)) ≡ in_name_order (map file_of l.files))
    × (All (λ file. IsFileName (string_bytes file.name)) l.files → All (λ file. IsFileName file.name) (map entry_file l.held.entries))
