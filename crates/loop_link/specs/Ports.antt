-- The port of a word.
use Rattle.std.specs.Prelude.{ℕ, List, unwrap_or}
use Rattle.net_types.specs.Numbers.{number_at}

-- a decimal number below 65536; 0 for a word that is none
abbrev pub port_named : List ℕ → ℕ
port_named word = unwrap_or (number_at 65536 word) 0
