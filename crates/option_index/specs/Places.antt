-- What the places of an index say of a message's instances.
use Rattle.std.specs.Prelude.{ℕ, ◌≡◌, ◌+◌, ◌<◌, ◌≤◌, List, [], ◌∷◌, ◌++◌, length, take, drop, slice_index, slice_index_or, nat_lt, if◌then◌else◌}
use Rattle.v4_options.specs.declared.area.Front.{Front}
use Rattle.v4_options.specs.declared.area.Front.TheVariants.{Pad, End, Cut, Whole}
use Rattle.v4_options.specs.declared.view.Areas.{Areas}
use Rattle.v4_options.specs.OptionArea.{Instance, instances_in}
use Rattle.v4_options.specs.OptionValue.{pieces}
use Rattle.option_index.specs.declared.place.Field.{Field}
use Rattle.option_index.specs.declared.place.Field.TheVariants.{Options, File, Sname}
use Rattle.option_index.specs.declared.place.Place.{Place}
use Rattle.option_index.specs.declared.place.Place.TheVariants.{Nowhere, At, Unkept}

abbrev pub field_bytes : Areas → Field → List ℕ
field_bytes areas Options = areas.options.now
field_bytes areas File = areas.file.now
field_bytes areas Sname = areas.sname.now

abbrev pub place_at : Field → ℕ → Place
place_at field at = if nat_lt at 65536 then At field at else Unkept

-- the place of a code, once one more instance is noted
abbrev pub noted : Place → Place → Place
noted Nowhere place = place
noted (At field at) place = Unkept
noted Unkept place = Unkept

-- the value whose length byte stands at a place
abbrev pub value_from : List ℕ → ℕ → List ℕ
value_from bytes at = take (slice_index bytes at) (drop (at + 1) bytes)

-- what stands at a place, and which instances of the area are left from there on
abbrev pub PassBy : List ℕ → ℕ → Front → Type 0
PassBy area at Pad = (at + 1 ≤ length area) × (instances_in (drop at area) ≡ instances_in (drop (at + 1) area))
PassBy area at End = instances_in (drop at area) ≡ []
PassBy area at Cut = instances_in (drop at area) ≡ []
PassBy area at (Whole n) =
    (at + (2 + n) ≤ length area)
    × (slice_index area (at + 1) ≡ n)
    ×
    (instances_in (drop at area)
    ≡ (slice_index area at, value_from area (at + 1)) ∷ instances_in (drop (at + (2 + n)) area))

-- an option whose length byte stands at a place lies within the bytes
abbrev pub StandsAt : List ℕ → ℕ → Type 0
StandsAt bytes at = at + 1 + slice_index bytes at ≤ length bytes

-- What a place says of all values of a code and of those that are left of the pass.
abbrev pub Told : Areas → Place → List (List ℕ) → List (List ℕ) → Type 0
Told areas Nowhere all left = all ≡ left
Told areas (At field at) all left =
    StandsAt (field_bytes areas field) at × (all ≡ value_from (field_bytes areas field) at ∷ left)
Told areas Unkept all left = Unit {0}

-- what the places say of all instances and of those that are left of the pass
abbrev pub Knows : Areas → List Instance → List Instance → List Place → Type 0
Knows areas all left places =
    (code : ℕ) → code < 256 → Told areas (slice_index_or places code Nowhere) (pieces code all) (pieces code left)

-- Instances are noted: what the places knew with them at the front of those that are left, they know without them.
abbrev pub Notes : Areas → List Instance → List Place → List Place → Type 0
Notes areas instances old new =
    (all later : List Instance) → Knows areas all (instances ++ later) old → Knows areas all later new
