-- What removals leave of the files of a store.
use Rattle.std.specs.Prelude.{ℕ, ◌≡◌, ◌⊎◌, Bool, true, false, List, [], ◌∷◌, Option, Some, None, option_map, if◌then◌else◌}
use Rattle.std.specs.String.{string_bytes}
use Rattle.world.specs.StoreFails.{StoreFails}
use Rattle.world.specs.FileLists.{StoreFile, drop_file}
use Rattle.lease_file.specs.declared.clearing.Cleared.{Cleared}

-- the files after a removal
abbrev pub without_one : Bool → List ℕ → List StoreFile → List StoreFile
without_one done name files = if done then drop_file name files else files

-- the files without those that were removed
abbrev pub without : List Cleared → List StoreFile → List StoreFile
without [] files = files
without (cleared ∷ rest) files = without rest (without_one cleared.ok (string_bytes cleared.name) files)

-- A removal that was done took the file. One that failed left it, or took it where it isn't told which calls fail.
abbrev pub TakesFile : Option StoreFails → Bool → List ℕ → Option (List StoreFile) → Option (List StoreFile) → Type 0
TakesFile failing true name old new = new ≡ option_map (drop_file name) old
TakesFile None false name old new = (new ≡ old) ⊎ (new ≡ option_map (drop_file name) old)
TakesFile (Some fails) false name old new = new ≡ old

-- removals one after another
abbrev pub TakesFiles : Option StoreFails → List Cleared → Option (List StoreFile) → Option (List StoreFile) → Type 0
TakesFiles failing [] old new = new ≡ old
TakesFiles failing (cleared ∷ rest) old new =
    (mid : Option (List StoreFile)) × TakesFile failing cleared.ok (string_bytes cleared.name) old mid
    × TakesFiles failing rest mid new
