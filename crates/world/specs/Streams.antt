-- What reading and writing do to the bytes of a stream, where these are told.
use Rattle.std.specs.Prelude.{ℕ, List, [], ◌++◌, ◌+◌, ◌-◌, ◌^◌, ◌<◌, ◌≤◌, ◌≡◌, min, length, take, drop, Option, Some, None, Result, Ok, Err}
use Rattle.net_types.specs.declared.fault.Failed.{Failed}
use Rattle.world.specs.declared.faults.DeviceAnswer.{DeviceAnswer}

-- The answer is how many of the bytes left were put at the buffer's front. None for a buffer with room is the end.
abbrev pub Reads : Option (List ℕ) → Option (List ℕ) → List ℕ → Result ℕ Failed → Type 0
Reads None new buffer result = new ≡ None
Reads (Some bytes) new buffer (Ok n) =
    (n ≤ length bytes) × (take n buffer ≡ take n bytes) × (new ≡ Some (drop n bytes))
    × (n ≡ 0 → 0 < length buffer → bytes ≡ [])
Reads (Some bytes) new buffer (Err e) = new ≡ Some bytes

-- Ok appends all the bytes, a refusal some of the first of them.
abbrev pub Writes : {T : Type 0} → Option (List ℕ) → Option (List ℕ) → List ℕ → Result T DeviceAnswer → Type 0
Writes None new bytes result = new ≡ None
Writes (Some written) new bytes (Ok x) = new ≡ Some (written ++ bytes)
Writes (Some written) new bytes (Err e) = (n : ℕ) × (new ≡ Some (written ++ take n bytes))

-- the count of calls after one more; it stays at the end of its range
abbrev pub count_after : ℕ → ℕ
count_after count = min (count + 1) (2 ^ 64 - 1)

-- the count of bytes taken after a read; it stays at the end of its range
abbrev pub taken_after : ℕ → Result ℕ Failed → ℕ
taken_after count (Ok n) = min (count + n) (2 ^ 64 - 1)
taken_after count (Err e) = count
