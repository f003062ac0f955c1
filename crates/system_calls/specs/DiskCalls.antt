-- The calls of the system on files, with their answers.
use Rattle.std.specs.Prelude.{ℕ, Bool, true, false, ◌≡◌, List, [], ◌∷◌, ◌++◌, take, Option, None, Some, Result, Ok, Err, String, option_map}
use Rattle.std.specs.Global.{Global}
use Rattle.std.specs.String.{string_bytes}
use Rattle.std.specs.Fs.{dir_entry_name}
use Rattle.std.specs.IoError.{error_kind}
use Rattle.std.specs.declared.fs.dir.DirEntry.{DirEntry}
use Rattle.std.specs.declared.io.Error.{Error}
use Rattle.std.specs.declared.io.ErrorKind.{ErrorKind}
use Rattle.std.specs.declared.io.ErrorKind.TheVariants as kind

-- each with why it gave nothing, where it did
pub data DiskCall : Type 0 where
  -- a file or a folder is opened for reading
  Opened : (path : List ℕ) → (failure : Option ErrorKind) → DiskCall
  -- a file is made, or emptied where it is there, and opened for writing
  Made : (path : List ℕ) → (failure : Option ErrorKind) → DiskCall
  -- the next bytes of the open file; none at its end
  Read : (answer : Result (List ℕ) ErrorKind) → DiskCall
  -- so many of these bytes stand behind what was written
  Wrote : (bytes : List ℕ) → (answer : Result ℕ ErrorKind) → DiskCall
  -- what the open file holds, or the names in the open folder, outlive a crash
  Synced : (failure : Option ErrorKind) → DiskCall
  Closed : DiskCall
  -- the file has the other name, in place of the one that had it, at once
  Renamed : (from to : List ℕ) → (failure : Option ErrorKind) → DiskCall
  Removed : (path : List ℕ) → (failure : Option ErrorKind) → DiskCall
  -- a folder is opened, and its names are asked for, one by one; none at the end
  Listed : (path : List ℕ) → (failure : Option ErrorKind) → DiskCall
  Named : (answer : Result (Option (List ℕ)) ErrorKind) → DiskCall

-- what a reading put at the front of a buffer
abbrev pub read_into : List ℕ → Result ℕ ErrorKind → Result (List ℕ) ErrorKind
read_into buffer (Ok n) = Ok (take n buffer)
read_into buffer (Err kind) = Err kind

-- a name that a listing gave, or its end
abbrev pub name_given : Result (Option (String Global)) ErrorKind → Result (Option (List ℕ)) ErrorKind
name_given (Ok name) = Ok (option_map string_bytes name)
name_given (Err kind) = Err kind

-- the name of an entry that a folder has, no entry, or why none can be had
abbrev pub NamesEntry : {R A F D : Type 0} → Option (Result (DirEntry R A F D) Error)
    → Result (Option (String Global)) ErrorKind → Type 0
NamesEntry None result = result ≡ Ok None
NamesEntry (Some (Err error)) result = result ≡ Err (error_kind error)
NamesEntry (Some (Ok entry)) (Ok (Some name)) = string_bytes name ≡ dir_entry_name entry
NamesEntry (Some (Ok entry)) (Ok None) = ⊥
NamesEntry (Some (Ok entry)) (Err failure) = failure ≡ kind.OutOfMemory

-- what readings gave
abbrev pub read_by : List DiskCall → List ℕ
read_by [] = []
read_by (Read (Ok bytes) ∷ before) = read_by before ++ bytes
read_by (call ∷ before) = read_by before

-- what was written by writings, each of which may have come short
abbrev pub written_by : List DiskCall → List ℕ
written_by [] = []
written_by (Wrote bytes (Ok n) ∷ before) = written_by before ++ take n bytes
written_by (call ∷ before) = written_by before

-- the names that a listing gave; one that is no text isn't given
abbrev pub named_by : List DiskCall → List (List ℕ)
named_by [] = []
named_by (Named (Ok (Some name)) ∷ before) = named_by before ++ name ∷ []
named_by (call ∷ before) = named_by before

abbrev pub is_piece : DiskCall → Bool
is_piece (Read (Ok bytes)) = true
is_piece call = false

abbrev pub is_write : DiskCall → Bool
is_write (Wrote bytes (Ok n)) = true
is_write call = false

-- whether a failure says that there is no such file
abbrev pub is_missing : ErrorKind → Bool
is_missing kind.NotFound = true
is_missing failure = false

-- whether a failure says that a name is no text
abbrev pub is_no_text : ErrorKind → Bool
is_no_text kind.InvalidFilename = true
is_no_text failure = false

-- a name, or one that is no text
abbrev pub is_entry : DiskCall → Bool
is_entry (Named (Ok (Some name))) = true
is_entry (Named (Err kind)) = is_no_text kind
is_entry call = false
