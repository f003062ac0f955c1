-- Which texts spell a line after the head: an IPv6 address may have any spelling (RFC 4291, section 2.2), all else is
-- as printed.
use Rattle.std.specs.Prelude.{◌≡◌, ℕ, Bool, List, ◌++◌, codes, Some}
use Rattle.net_types.specs.declared.address.Net.{Net}
use Rattle.net_types.specs.declared.interface.IfIndex.{IfIndex}
use Rattle.world.specs.declared.rows.HostRow.{HostRow}
use Rattle.world.specs.declared.rows.HostRow.TheVariants.{Addr}
use Rattle.script_model.specs.Lines.{Line, line_words, outcome_text, Row, HostDel, HostAdd, Turn, Hold}
use Rattle.script_model.specs.RowSpellings.{SpellsRow}
use Rattle.script_model.specs.TurnSpellings.{SpellsGiven}
use Rattle.transcript_lines.specs.Bounds.{FitsTold}
use Rattle.transcript_lines.specs.LineReading.{line_at}

pub record SpellsListed (text : List ℕ) (row : HostRow) : Type 0 where
  pub words : List ℕ
  pub spelled : text ≡ codes "row " ++ words
  pub spells : SpellsRow words row

-- a change of the host's rows
pub record SpellsChange (word text : List ℕ) (row : HostRow) (done : Bool) : Type 0 where
  pub words : List ℕ
  pub spelled : text ≡ word ++ words ++ codes " " ++ outcome_text done
  pub spells : SpellsRow words row

-- an address that stays
pub record SpellsHeld (text : List ℕ) (iface : IfIndex) (net : Net) : Type 0 where
  pub words : List ℕ
  pub spelled : text ≡ codes "hold " ++ words
  pub spells : SpellsRow words (Addr iface net)

abbrev pub SpellsLine : List ℕ → Line → Type 0
SpellsLine text (Row row) = SpellsListed text row
SpellsLine text (HostDel row done) = SpellsChange (codes "host del ") text row done
SpellsLine text (HostAdd row done) = SpellsChange (codes "host add ") text row done
SpellsLine text (Turn at salt event bytes) =
    SpellsGiven text (record { wake = record { at = at; salt = salt; event = event }; bytes = bytes })
SpellsLine text (Hold iface net) = SpellsHeld text iface net
SpellsLine text line = text ≡ line_words line

-- the text is that of a line which may stand there
pub record IsTold (text : List ℕ) (line : Line) : Type 0 where
  pub spells : SpellsLine text line
  pub fits : FitsTold line

-- What is read is spelled so, and what is spelled so is read: a text spells one line at most.
pub record LinesAreRead : Type 0 where
  pub sound : (text : List ℕ) (line : Line) → line_at text ≡ Some line → IsTold text line
  pub whole : (text : List ℕ) (line : Line) → IsTold text line → line_at text ≡ Some line
