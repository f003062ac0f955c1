-- What a crash may bring back: the files where all renames and removals since the last settling are undone, and asides
-- that were not synced are empty.
use Rattle.std.specs.Prelude.{ℕ, Bool, true, false, List, [], ◌∷◌, filter, Option, Some, None}
use Rattle.world.specs.FileNames.{aside_of}
use Rattle.world.specs.NamedLists.{named, put_named, drop_named}
use Rattle.world.specs.FileLists.{StoreFile, put_file, drop_file}

-- what undoing makes of a file
pub data Undo : Type 0 where
  -- an aside that was not synced
  Empties : Undo
  -- a renaming or a removal: what the file was before; nothing stands for no such file
  Restores : (content : Option (List ℕ)) → Undo

pub record UndoneFile : Type 0 where
  pub name : List ℕ
  pub undo : Undo

abbrev pub undone_name : UndoneFile → List ℕ
undone_name file = file.name

abbrev pub content_of : Undo → Option (List ℕ)
content_of Empties = Some []
content_of (Restores content) = content

abbrev pub is_emptied : Undo → Bool
is_emptied Empties = true
is_emptied (Restores content) = false

-- the content that undoing gives a file that reads so
abbrev pub undone_at : (name : List ℕ) → (reads : Option (List ℕ)) → List UndoneFile → Option (List ℕ)
undone_at name reads files = named undone_name (λ file. content_of file.undo) reads name files

-- the files with one that has this content, or none
abbrev pub set_file : List ℕ → Option (List ℕ) → List StoreFile → List StoreFile
set_file name None files = drop_file name files
set_file name (Some bytes) files = put_file (record { name = name; bytes = bytes }) files

abbrev pub undone : List UndoneFile → List StoreFile → List StoreFile
undone [] files = files
undone (file ∷ rest) files = set_file file.name (content_of file.undo) (undone rest files)

abbrev pub put_undo : (name : List ℕ) → Undo → List UndoneFile → List UndoneFile
put_undo name undo files = put_named undone_name (record { name = name; undo = undo }) files

-- a file that reads so is changed, and undoing gives it what it would have given before
abbrev pub restoring : (name : List ℕ) → (reads : Option (List ℕ)) → List UndoneFile → List UndoneFile
restoring name reads undo = put_undo name (Restores (undone_at name reads undo)) undo

abbrev pub undo_synced : (aside : List ℕ) → Option (List ℕ) → List UndoneFile → List UndoneFile
undo_synced aside None undo = undo
undo_synced aside (Some bytes) undo = drop_named undone_name aside undo

-- a file that reads so is renamed to from its aside, where there is one
abbrev pub undo_renamed : (name : List ℕ) → (reads aside : Option (List ℕ)) → List UndoneFile → List UndoneFile
undo_renamed name reads None undo = undo
undo_renamed name reads (Some bytes) undo = restoring (aside_of name) (Some bytes) (restoring name reads undo)

abbrev pub undo_settled : List UndoneFile → List UndoneFile
undo_settled undo = filter (λ file. is_emptied file.undo) undo
