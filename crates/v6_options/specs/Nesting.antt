-- Options within options (RFC 8415, sections 21.4, 21.6, 21.21 and 21.22), and the first that breaks the rule.
use Rattle.std.specs.Prelude.{ℕ, zero, suc, ◌+◌, List, length, drop, Option, Some, None, ◌==◌, ◌||◌, if◌then◌else◌}
use Rattle.v6_options.specs.declared.area.Front.{Front}
use Rattle.v6_options.specs.declared.area.Front.TheVariants.{End, Bad, Whole}
use Rattle.v6_options.specs.Layout.{ia_fields_len, address_fields_len, prefix_fields_len}
use Rattle.v6_options.specs.Codes.{ia_na, ia_address, ia_pd, ia_prefix}
use Rattle.v6_options.specs.OptionArea.{field, front_of}

-- how many bytes of fixed fields stand before the options that an option of this code holds; other codes hold none
abbrev pub fields_len : ℕ → Option ℕ
fields_len code =
    if (code == ia_na) || (code == ia_pd) then Some ia_fields_len
    else if code == ia_address then Some address_fields_len
    else if code == ia_prefix then Some prefix_fields_len
    else None

abbrev pub or_else : Option ℕ → Option ℕ → Option ℕ
or_else None later = later
or_else (Some place) later = Some place

-- the first place within what an option at `at` holds
abbrev pub malformed_held : Option ℕ → ℕ → List ℕ → (ℕ → List ℕ → Option ℕ) → Option ℕ
malformed_held None at value within = None
malformed_held (Some fields) at value within = within (at + 4 + fields) (drop fields value)

-- the first place in an area whose front is known: an option itself, then what it holds, then what follows it
abbrev pub malformed_by : Front → ℕ → List ℕ → (ℕ → List ℕ → Option ℕ) → Option ℕ
malformed_by End at area within = None
malformed_by Bad at area within = Some at
malformed_by (Whole code len) at area within =
    or_else (malformed_held (fields_len code) at (field 4 len area) within)
    (within (at + 4 + len) (drop len (drop 4 area)))

-- the first place, where no more than this many options stand one behind or within the other
abbrev pub malformed_within : ℕ → ℕ → List ℕ → Option ℕ
malformed_within zero at area = None
malformed_within (suc more) at area = malformed_by (front_of area) at area (malformed_within more)

-- The place of the first option of an area that breaks the rule, at any depth; the area begins at `at`.
-- There are fewer options than bytes.
unfoldable pub malformed_in : ℕ → List ℕ → Option ℕ
malformed_in at area = malformed_within (length area) at area
