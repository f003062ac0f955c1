-- What was read of a source.
use Rattle.std.specs.Prelude.{ℕ, ◌≡◌, ◌<◌, ◌≤◌, ◌+◌, ◌-◌, ◌^◌, List, [], ◌++◌, length, take, drop, Option, Some, None}

-- how many bytes an input may have
abbrev pub limit : ℕ
limit = 16777216

-- bytes were moved from the front of what was left to the end of what was read
abbrev pub Moves : Option (List ℕ) → Option (List ℕ) → List ℕ → List ℕ → ℕ → Type 0
Moves None left read_old read_new n = left ≡ None
Moves (Some bytes) left read_old read_new n =
    (n ≤ length bytes) × (read_new ≡ read_old ++ take n bytes) × (left ≡ Some (drop n bytes)) × (n ≡ 0 → bytes ≡ [])

-- so many bytes were taken from the front of what was left, where that is told
abbrev pub Takes : ℕ → Option (List ℕ) → Option (List ℕ) → Type 0
Takes n None left = Unit {0}
Takes n (Some bytes) left = (n ≤ length bytes) × (left ≡ Some (drop n bytes))

-- what a source tells: the bytes left, how many were taken, and how often it was read
pub record InputTold : Type 0 where
  pub left : Option (List ℕ)
  pub taken : ℕ
  pub reads : ℕ

abbrev pub input_told : Option (List ℕ) → (taken reads : ℕ) → InputTold
input_told left taken reads = record { left = left; taken = taken; reads = reads }

-- so many bytes were counted, unless the count is at the end of its range
abbrev pub CountsTaken : ℕ → (old new : ℕ) → Type 0
CountsTaken n old new = old + n ≤ 2 ^ 64 - 1 → new ≡ old + n

-- some bytes were taken, no more than there was room for
pub record TakesSome (room : ℕ) (old new : InputTold) : Type 0 where
  pub taken : ℕ
  pub few : taken ≤ room
  pub takes : Takes taken old.left new.left
  pub counted : CountsTaken taken old.taken new.taken

-- at most one byte past the limit was taken, in reads that each but the last took at least one
pub record ReadsWithin (old new : InputTold) : Type 0 where
  pub taken : ℕ
  pub few : taken ≤ limit + 1
  pub takes : Takes taken old.left new.left
  pub counted : CountsTaken taken old.taken new.taken
  pub reads : new.reads ≤ old.reads + taken + 1

-- what was read and what is left are the input
abbrev pub IsFront : List ℕ → List ℕ → Option (List ℕ) → Type 0
IsFront input read None = ⊥
IsFront input read (Some left) = input ≡ read ++ left

abbrev pub HasRead : Option (List ℕ) → List ℕ → Option (List ℕ) → Type 0
HasRead None read left = Unit {0}
HasRead (Some input) read left = IsFront input read left

-- where the input is told, all of it was read
abbrev pub IsInput : Option (List ℕ) → List ℕ → Type 0
IsInput None read = Unit {0}
IsInput (Some input) read = input ≡ read

-- where the input is told, it is longer than the limit
abbrev pub IsTooLong : Option (List ℕ) → Type 0
IsTooLong None = Unit {0}
IsTooLong (Some input) = limit < length input
