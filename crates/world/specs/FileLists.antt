-- The files of a store, as they read, in byte order of their names.
use Rattle.std.specs.Prelude.{ℕ, Bool, List, length, map, filter, drop, ◌-◌, codes, Option, Some, None}
use Rattle.world.specs.FileNames.{aside_of, is_name}
use Rattle.world.specs.NamedLists.{named, put_named, drop_named}

pub record StoreFile : Type 0 where
  pub name : List ℕ
  pub bytes : List ℕ

abbrev pub file_name : StoreFile → List ℕ
file_name file = file.name

-- the bytes of a file
abbrev pub file_at : List ℕ → List StoreFile → Option (List ℕ)
file_at name files = named file_name (λ file. Some file.bytes) None name files

-- the files with one at its place in the order, in place of one of that name
abbrev pub put_file : StoreFile → List StoreFile → List StoreFile
put_file file files = put_named file_name file files

-- the files without the one of a name
abbrev pub drop_file : List ℕ → List StoreFile → List StoreFile
drop_file name files = drop_named file_name name files

-- whether a name is that of an aside
abbrev pub is_aside : List ℕ → Bool
is_aside name = is_name (drop (length name - 4) name) (codes ".new")

abbrev pub asides : List StoreFile → List (List ℕ)
asides files = filter is_aside (map file_name files)

-- the aside of a name is put in place of its file, and is no more
abbrev pub rename_file : List ℕ → Option (List ℕ) → List StoreFile → List StoreFile
rename_file name None files = files
rename_file name (Some bytes) files = drop_file (aside_of name) (put_file (record { name = name; bytes = bytes }) files)
