-- What stands at the front of an area says which instances and which broken option follow.
use Rattle.std.specs.Prelude.{ℕ, ◌≡◌, ◌+◌, ◌≤◌, List, ◌++◌, length, take, drop, Option, Some, true}
use Rattle.v6_options.specs.declared.area.Front.{Front}
use Rattle.v6_options.specs.declared.area.Front.TheVariants.{End, Bad, Whole}
use Rattle.v6_options.specs.declared.deep.Cursor.{Cursor}
use Rattle.v6_options.specs.OptionArea.{field, has_form, instances_in, instances_by}
use Rattle.v6_options.specs.Nesting.{or_else, malformed_in, malformed_by, malformed_held}

-- what stands at the front lies within the area, and has its form
abbrev pub HasRoom : List ℕ → Front → Type 0
HasRoom area End = length area ≡ 0
HasRoom area Bad = 1 ≤ length area
HasRoom area (Whole code len) = (len + 4 ≤ length area) × (has_form code (field 4 len area) ≡ true)

abbrev pub InstancesBy : List ℕ → Front → Type 0
InstancesBy area front = instances_in area ≡ instances_by front area instances_in

abbrev pub MalformedBy : ℕ → List ℕ → Front → Type 0
MalformedBy at area front = malformed_in at area ≡ malformed_by front at area malformed_in

-- whole options: what follows them is judged by itself
abbrev pub IsWhole : List ℕ → Type 0
IsWhole area =
    (at : ℕ) (rest : List ℕ)
    → malformed_in at (area ++ rest) ≡ or_else (malformed_in at area) (malformed_in (at + length area) rest)

-- the first option of the area itself that breaks the rule stands here, and what those before it hold is judged first
pub record IsBadAt (area : List ℕ) (place : ℕ) : Type 0 where
  pub within : place ≤ length area
  pub judged : (at : ℕ) → malformed_in at area ≡ or_else (malformed_in at (take place area)) (Some (at + place))

-- the options within the value of an area's first option
abbrev pub held_in : ℕ → ℕ → List ℕ → List ℕ
held_in fields len area = drop fields (field 4 len area)

-- the first place from a whole option on whose value has so many bytes
abbrev pub malformed_by_value : ℕ → Option ℕ → ℕ → List ℕ → Option ℕ
malformed_by_value at fields len area =
    or_else (malformed_held fields at (field 4 len area) malformed_in)
    (malformed_in (at + 4 + len) (drop len (drop 4 area)))

-- what is left to judge from a cursor on
abbrev pub malformed_from : Cursor → Option ℕ
malformed_from cursor = or_else (malformed_in cursor.at cursor.rest.now) cursor.broken

-- the same after an option whose value has so many bytes is passed
abbrev pub malformed_past : Cursor → Option ℕ → ℕ → Option ℕ
malformed_past cursor fields len = or_else (malformed_by_value cursor.at fields len cursor.rest.now) cursor.broken
