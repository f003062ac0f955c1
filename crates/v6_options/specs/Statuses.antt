-- How a request went (RFC 8415, section 21.13).
use Rattle.std.specs.Prelude.{ℕ, List, Option, Some, None}
use Rattle.v6_options.specs.Codes.{status_code}
use Rattle.v6_options.specs.OptionArea.{word_in, instances_in}
use Rattle.v6_options.specs.OptionWalk.{first_of}

abbrev pub success : ℕ
success = 0

-- without a status option all went well
abbrev pub status_by : Option (List ℕ) → ℕ
status_by None = success
status_by (Some value) = word_in 0 value

-- the status among options: that of the first status option
abbrev pub status_in : List ℕ → ℕ
status_in options = status_by (first_of status_code (instances_in options))
