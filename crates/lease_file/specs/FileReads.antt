-- Reading files of a store.
use Rattle.std.specs.Prelude.{ℕ, ◌≡◌, ◌<◌, Bool, true, false, List, [], ◌∷◌, Option, Some, None, Result, Ok, Err}
use Rattle.std.specs.List.{list_any}
use Rattle.net_types.specs.declared.fault.NoMemory.{NoMemory}
use Rattle.world.specs.StoreFails.{StoreFails, fails_at}
use Rattle.world.specs.StoreCalls.{StoreTold, Reading, Found, Missing, Unread, StoreCall, ReadFile, store_answered}
use Rattle.world.specs.FileLists.{file_at}
use Rattle.lease_file.specs.declared.reading.Got.{Got}
use Rattle.lease_file.specs.declared.reading.Got.TheVariants as got

-- what was read, as a store tells it
abbrev pub got_reading : Got → Reading
got_reading (got.Text bytes) = Found bytes.items
got_reading got.Missing = Missing
got_reading got.Unread = Unread

-- A file is unread only where the count of faults rose.
abbrev pub HasReadCause : ℕ → ℕ → Result Got NoMemory → Type 0
HasReadCause old new (Ok (got.Text bytes)) = Unit {0}
HasReadCause old new (Ok got.Missing) = Unit {0}
HasReadCause old new (Ok got.Unread) = old < new
HasReadCause old new (Err e) = Unit {0}

-- Where it is told which calls fail, a file is unread exactly where the number of its reading is told.
abbrev pub IsReadForetold : Option StoreFails → ℕ → Result Got NoMemory → Type 0
IsReadForetold None number result = Unit {0}
IsReadForetold (Some failing) number (Ok (got.Text bytes)) = fails_at failing number ≡ false
IsReadForetold (Some failing) number (Ok got.Missing) = fails_at failing number ≡ false
IsReadForetold (Some failing) number (Ok got.Unread) = fails_at failing number ≡ true
IsReadForetold (Some failing) number (Err e) = Unit {0}

-- what was read is the file as it stands
abbrev pub IsReadingOf : Option (List ℕ) → Got → Type 0
IsReadingOf file (got.Text bytes) = file ≡ Some bytes.items
IsReadingOf file got.Missing = file ≡ None
IsReadingOf file got.Unread = Unit {0}

abbrev pub TellsReading : List ℕ → Option StoreTold → Option StoreTold → Result Got NoMemory → Type 0
TellsReading name None told_new result = told_new ≡ None
TellsReading name (Some told) told_new (Ok g) =
    IsReadingOf (file_at name told.files) g
    × (told_new ≡ Some (store_answered (ReadFile name (got_reading g)) told.files told))
TellsReading name (Some told) told_new (Err e) = told_new ≡ Some told

abbrev pub is_unread : Got → Bool
is_unread (got.Text bytes) = false
is_unread got.Missing = false
is_unread got.Unread = true

abbrev pub any_unread : List Got → Bool
any_unread gots = list_any is_unread gots

-- the calls that read files, with their answers
abbrev pub reading_calls : List (List ℕ) → List Got → List StoreCall
reading_calls [] gots = []
reading_calls (name ∷ names) [] = []
reading_calls (name ∷ names) (g ∷ gots) = ReadFile name (got_reading g) ∷ reading_calls names gots
