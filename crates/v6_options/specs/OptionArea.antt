-- Options one after another: a code and a length of two bytes each, and a value of so many bytes (RFC 8415, section
-- 21.1).
use Rattle.std.specs.Prelude.{ℕ, zero, suc, ◌-◌, Bool, true, List, [], ◌∷◌, length, take, drop, slice_index, nat_le, nat_lt, ◌==◌, ◌&&◌, ◌||◌, if◌then◌else◌}
use Rattle.std.specs.Int.{w16, from_be_bytes}
use Rattle.v6_options.specs.declared.area.Front.{Front}
use Rattle.v6_options.specs.declared.area.Front.TheVariants.{End, Bad, Whole}
use Rattle.v6_options.specs.Layout.{ia_fields_len, address_fields_len, prefix_fields_len, status_fields_len, address_bits}
use Rattle.v6_options.specs.Codes.{ia_na, ia_address, status_code, ia_pd, ia_prefix}

-- an instance of an option: its code and its value
abbrev pub Instance : Type 0
Instance = ℕ × List ℕ

-- so many bytes from a place on
abbrev pub field : ℕ → ℕ → List ℕ → List ℕ
field at len bytes = take len (drop at bytes)

abbrev pub word_in : ℕ → List ℕ → ℕ
word_in at bytes = from_be_bytes w16 (field at 2 bytes)

-- Whether a value has room for the fixed fields of its option (RFC 8415, sections 21.4, 21.6, 21.13, 21.21 and 21.22).
-- The ninth byte of a prefix option is the prefix's length in bits.
abbrev pub has_form : ℕ → List ℕ → Bool
has_form code value =
    if (code == ia_na) || (code == ia_pd) then nat_le ia_fields_len (length value)
    else if code == ia_address then nat_le address_fields_len (length value)
    else if code == ia_prefix then nat_le prefix_fields_len (length value) && nat_le (slice_index value 8) address_bits
    else if code == status_code then nat_le status_fields_len (length value)
    else true

-- What stands at the front: nothing, an option whose header is cut, whose value runs past the area or has no room for
-- its fixed fields, or a whole one with its code and the length of its value.
unfoldable pub front_of : List ℕ → Front
front_of area =
    if length area == 0 then End
    else if nat_lt (length area) 4 then Bad
    else if nat_lt (length area - 4) (word_in 2 area) then Bad
    else if has_form (word_in 0 area) (field 4 (word_in 2 area) area) then Whole (word_in 0 area) (word_in 2 area)
    else Bad

-- the instances of an area whose first is known, with those after it
abbrev pub instances_by : Front → List ℕ → (List ℕ → List Instance) → List Instance
instances_by End area later = []
instances_by Bad area later = []
instances_by (Whole code len) area later = (code, field 4 len area) ∷ later (drop len (drop 4 area))

-- the instances of an area, where there are no more than this
abbrev pub instances_within : ℕ → List ℕ → List Instance
instances_within zero area = []
instances_within (suc more) area = instances_by (front_of area) area (instances_within more)

-- The instances of an area, in its order, up to one that is broken. There are fewer than bytes.
unfoldable pub instances_in : List ℕ → List Instance
instances_in area = instances_within (length area) area
