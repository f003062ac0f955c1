-- What stands at the front of an area says which instances and which malformed option follow.
use Rattle.std.specs.Prelude.{ℕ, ◌≡◌, ◌+◌, ◌≤◌, List, [], ◌∷◌, length, take, drop, slice_index, Some, None, ◌==◌, if◌then◌else◌}
use Rattle.v4_options.specs.declared.area.Front.{Front}
use Rattle.v4_options.specs.declared.area.Front.TheVariants.{Pad, End, Cut, Whole}
use Rattle.v4_options.specs.declared.overload.Overload.TheVariants.{Neither}
use Rattle.v4_options.specs.OptionArea.{instances_in, malformed_in}
use Rattle.v4_options.specs.Overload.{overload_by, overload_in}

-- What stands at the front lies within the area. A value has as many bytes as its length byte says.
abbrev pub LiesIn : List ℕ → Front → Type 0
LiesIn area Pad = 1 ≤ length area
LiesIn area End = Unit {0}
LiesIn area Cut = 1 ≤ length area
LiesIn area (Whole n) = (n + 2 ≤ length area) × (slice_index area 1 ≡ n)

abbrev pub InstancesBy : List ℕ → Front → Type 0
InstancesBy area Pad = instances_in area ≡ instances_in (drop 1 area)
InstancesBy area End = instances_in area ≡ []
InstancesBy area Cut = instances_in area ≡ []
InstancesBy area (Whole n) =
    instances_in area ≡ (slice_index area 0, take n (drop 2 area)) ∷ instances_in (drop n (drop 2 area))

abbrev pub MalformedBy : ℕ → List ℕ → Front → Type 0
MalformedBy at area Pad = malformed_in at area ≡ malformed_in (at + 1) (drop 1 area)
MalformedBy at area End = malformed_in at area ≡ None
MalformedBy at area Cut = malformed_in at area ≡ Some at
MalformedBy at area (Whole n) = malformed_in at area ≡ malformed_in (at + (2 + n)) (drop n (drop 2 area))

abbrev pub OverloadBy : List ℕ → Front → Type 0
OverloadBy area Pad = overload_in area ≡ overload_in (drop 1 area)
OverloadBy area End = overload_in area ≡ Neither
OverloadBy area Cut = overload_in area ≡ Neither
OverloadBy area (Whole n) =
    overload_in area
    ≡ (if slice_index area 0 == 52 then overload_by (take n (drop 2 area)) else overload_in (drop n (drop 2 area)))
