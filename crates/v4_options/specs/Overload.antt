-- Which areas hold options (RFC 2132, section 9.3; RFC 2131, section 4.1).
use Rattle.std.specs.Prelude.{ℕ, Bool, true, false, List, [], ◌∷◌, ◌++◌, Option, Some, None, ◌==◌, if◌then◌else◌}
use Rattle.v4_options.specs.declared.overload.Overload.{Overload}
use Rattle.v4_options.specs.declared.overload.Overload.TheVariants.{Neither, File, Sname, Both}
use Rattle.v4_options.specs.declared.overload.TheConstants.{FILE, SNAME, BOTH}
use Rattle.v4_options.specs.OptionArea.{Instance, instances_in, malformed_in}
use Rattle.v4_options.specs.OptionValue.{pieces}

-- the areas that a number tells; any other counts as none
abbrev pub overload_with : ℕ → Overload
overload_with number =
    if number == FILE then File
    else if number == SNAME then Sname
    else if number == BOTH then Both
    else Neither

abbrev pub overload_by : List ℕ → Overload
overload_by [] = Neither
overload_by (number ∷ []) = overload_with number
overload_by (number ∷ next ∷ rest) = Neither

-- the first instance counts
abbrev pub first_overload : List (List ℕ) → Overload
first_overload [] = Neither
first_overload (value ∷ others) = overload_by value

unfoldable pub overload_in : List ℕ → Overload
overload_in options = first_overload (pieces 52 (instances_in options))

abbrev pub reads_file : Overload → Bool
reads_file Neither = false
reads_file File = true
reads_file Sname = false
reads_file Both = true

abbrev pub reads_sname : Overload → Bool
reads_sname Neither = false
reads_sname File = false
reads_sname Sname = true
reads_sname Both = true

-- the instances of all areas that are read: options, then file, then sname
abbrev pub instances_over : Overload → List ℕ → List ℕ → List ℕ → List Instance
instances_over overload options file sname =
    instances_in options
    ++ (if reads_file overload then instances_in file else [])
    ++ (if reads_sname overload then instances_in sname else [])

abbrev pub or_else : Option ℕ → Option ℕ → Option ℕ
or_else None later = later
or_else (Some place) later = Some place

-- where each area begins
pub record Begins : Type 0 where
  pub options : ℕ
  pub file : ℕ
  pub sname : ℕ

-- the first malformed option of the areas that are read
abbrev pub malformed_over : Begins → Overload → List ℕ → List ℕ → List ℕ → Option ℕ
malformed_over begins overload options file sname =
    or_else (malformed_in begins.options options)
    (or_else (if reads_file overload then malformed_in begins.file file else None)
    (if reads_sname overload then malformed_in begins.sname sname else None))
