-- The grammar of an area of options (RFC 2132, section 2): padding and options, then the end option or the area's end.
use Rattle.std.specs.Prelude.{ℕ, ◌≡◌, ◌≢◌, ◌<◌, List, [], ◌∷◌, ◌++◌, length}
use Rattle.std.specs.List.{flat_map, AllByRecursion}
use Rattle.v4_options.specs.OptionArea.{Instance}

pub data Part : Type 0 where
  padding : Part
  option : ℕ → List ℕ → Part

-- an option is its code, the length of its value, and its value
abbrev pub part_text : Part → List ℕ
part_text padding = 0 ∷ []
part_text (option code value) = code ∷ length value ∷ value

abbrev pub FitsPart : Part → Type 0
FitsPart padding = Unit {0}
FitsPart (option code value) = (code ≢ 0) × (code ≢ 255) × (length value < 256)

abbrev pub area_text : List Part → List ℕ
area_text parts = flat_map part_text parts

abbrev pub part_instances : Part → List Instance
part_instances padding = []
part_instances (option code value) = (code, value) ∷ []

-- the end option, with anything after it, or nothing
abbrev pub IsEnd : List ℕ → Type 0
IsEnd [] = Unit {0}
IsEnd (code ∷ rest) = code ≡ 255

-- an option that the end of the area cuts: it has no length byte, or fewer bytes than that says
abbrev pub IsCut : List ℕ → Type 0
IsCut [] = ⊥
IsCut (code ∷ []) = (code ≢ 0) × (code ≢ 255)
IsCut (code ∷ len ∷ rest) = (code ≢ 0) × (code ≢ 255) × (length rest < len)

-- an area that is these parts
pub record IsArea (area : List ℕ) (parts : List Part) : Type 0 where
  pub rest : List ℕ
  pub text : area ≡ area_text parts ++ rest
  pub fit : AllByRecursion FitsPart parts
  pub ends : IsEnd rest

-- an area whose first malformed option stands at this place
pub record IsMalformedAt (area : List ℕ) (place : ℕ) : Type 0 where
  pub parts : List Part
  pub rest : List ℕ
  pub text : area ≡ area_text parts ++ rest
  pub fit : AllByRecursion FitsPart parts
  pub after : place ≡ length (area_text parts)
  pub cut : IsCut rest
