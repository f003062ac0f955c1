-- The options of one area (RFC 2132, section 2).
use Rattle.std.specs.Prelude.{ℕ, zero, suc, ◌+◌, List, [], ◌∷◌, ◌++◌, length, take, drop, slice_index, Option, Some, None, nat_lt, ◌==◌, if◌then◌else◌}
use Rattle.v4_options.specs.declared.area.Front.{Front}
use Rattle.v4_options.specs.declared.area.Front.TheVariants.{Pad, End, Cut, Whole}

-- an instance of an option: its code and its value
abbrev pub Instance : Type 0
Instance = ℕ × List ℕ

-- What stands at the front. 0 is a byte of padding, and 255 ends the area, as its last byte does.
-- Any other code has a length byte and a value of so many bytes.
unfoldable pub front_of : List ℕ → Front
front_of [] = End
front_of (code ∷ rest) =
    if code == 0 then Pad
    else if code == 255 then End
    else if nat_lt (length rest) (slice_index rest 0 + 1) then Cut
    else Whole (slice_index rest 0)

-- how many bytes after the first one belong to what stands at the front
abbrev pub more_bytes : Front → List ℕ → ℕ
more_bytes Pad rest = 0
more_bytes (Whole n) rest = suc n
more_bytes End rest = length rest
more_bytes Cut rest = length rest

abbrev pub instance_of : ℕ → Front → List ℕ → List Instance
instance_of code (Whole n) rest = (code, take n (drop 1 rest)) ∷ []
instance_of code Pad rest = []
instance_of code End rest = []
instance_of code Cut rest = []

-- the instances that begin after so many bytes
abbrev pub instances_after : ℕ → List ℕ → List Instance
instances_after skip [] = []
instances_after (suc k) (b ∷ rest) = instances_after k rest
instances_after zero (code ∷ rest) =
    instance_of code (front_of (code ∷ rest)) rest ++ instances_after (more_bytes (front_of (code ∷ rest)) rest) rest

-- the instances of an area, in its order
unfoldable pub instances_in : List ℕ → List Instance
instances_in area = instances_after 0 area

abbrev pub place_by : Front → ℕ → Option ℕ → Option ℕ
place_by Cut at later = Some at
place_by Pad at later = later
place_by End at later = later
place_by (Whole n) at later = later

-- the place of the first malformed option that begins after so many bytes, where the area begins at `at`
abbrev pub malformed_after : ℕ → ℕ → List ℕ → Option ℕ
malformed_after at skip [] = None
malformed_after at (suc k) (b ∷ rest) = malformed_after (suc at) k rest
malformed_after at zero (code ∷ rest) =
    place_by (front_of (code ∷ rest)) at (malformed_after (suc at) (more_bytes (front_of (code ∷ rest)) rest) rest)

-- The place of the first option that the end of its area cuts.
unfoldable pub malformed_in : ℕ → List ℕ → Option ℕ
malformed_in at area = malformed_after at 0 area
