-- What a crash may leave of a store's files.
use Rattle.std.specs.Prelude.{ℕ, ◌≡◌, ◌⊎◌, Bool, true, false, List, [], ◌∷◌, Option}
use Rattle.world.specs.NamedLists.{named}

-- a file that was changed since the last settling; of one name the first counts
pub record ChangedFile : Type 0 where
  pub name : List ℕ
  -- the contents that a crash may leave; nothing stands for no such file
  pub contents : List (Option (List ℕ))
  -- a crash may leave any bytes
  pub torn : Bool
  -- what it reads as was not synced: a crash may leave any bytes also once all is settled
  pub unsynced : Bool

-- a file that was not changed is as it reads
abbrev pub unchanged : (name : List ℕ) → (reads : Option (List ℕ)) → ChangedFile
unchanged name reads = record { name = name; contents = reads ∷ []; torn = false; unsynced = false }

abbrev pub changed_name : ChangedFile → List ℕ
changed_name file = file.name

-- what is known of the file that reads so
abbrev pub changed_file : (name : List ℕ) → (reads : Option (List ℕ)) → List ChangedFile → ChangedFile
changed_file name reads files = named changed_name (λ file. file) (unchanged name reads) name files

abbrev pub IsAmong : Option (List ℕ) → List (Option (List ℕ)) → Type 0
IsAmong content [] = ⊥
IsAmong content (one ∷ others) = (content ≡ one) ⊎ IsAmong content others

-- A crash may leave this content of a file.
abbrev pub MayBe : ChangedFile → Option (List ℕ) → Type 0
MayBe file content = (file.torn ≡ true) ⊎ IsAmong content file.contents

-- A crash may leave these files: each by its name as it may be.
abbrev pub IsImage : (disk : List ChangedFile) → (reads image : List ℕ → Option (List ℕ)) → Type 0
IsImage disk reads image = (name : List ℕ) → MayBe (changed_file name (reads name) disk) (image name)
