-- The lines that may stand after the head of a transcript.
use Rattle.std.specs.Prelude.{ℕ, ◌^◌, Bool, true, false, ◌&&◌, nat_le, nat_lt, IsTrue}
use Rattle.std.specs.List.{list_all}
use Rattle.script_model.specs.Lines.{Line, Head, Conf, Notice, Interface, Start, Asides, Wrote, Synced, Renamed, Removed, Read, Turn, Variable, Send, Hold}
use Rattle.transcript_text.specs.Fits.{FitsLine}
use Rattle.transcript_lines.specs.Names.{is_word}

-- an interface of a host
abbrev pub is_iface : ℕ → Bool
is_iface number = nat_le 1 number && nat_le number 64

-- milliseconds since 1970
abbrev pub is_moment : ℕ → Bool
is_moment at = nat_lt at (10 ^ 15)

-- interfaces are those of a host, moments have 15 digits at most, and names of files and variables have a byte at least
abbrev pub is_told : Line → Bool
is_told Head = false
is_told (Conf text) = false
is_told (Notice line word) = false
is_told (Interface spec) = is_iface spec.index.number
is_told (Start begin) = is_moment begin.at
is_told (Asides names) = list_all is_word names
is_told (Wrote name bytes done) = is_word name
is_told (Synced name done) = is_word name
is_told (Renamed name done) = is_word name
is_told (Removed name done) = is_word name
is_told (Read name reading) = is_word name
is_told (Turn at salt event bytes) = is_moment at
is_told (Variable name value) = is_word name
is_told (Send iface bytes taken) = is_iface iface.number
is_told (Hold iface net) = is_iface iface.number
is_told line = true

pub record FitsTold (line : Line) : Type 0 where
  pub fits : FitsLine line
  pub told : IsTrue (is_told line)
