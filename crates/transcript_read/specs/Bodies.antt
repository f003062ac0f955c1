-- How the lines after the head are read, one after another, with what goes through them.
use Rattle.std.specs.Prelude.{◌≡◌, ℕ, Bool, true, false, List, [], ◌∷◌, Option, Some, None, option_map, if◌then◌else◌}
use Rattle.std.specs.List.{list_all}
use Rattle.net_types.specs.declared.fault.BadText.{BadText}
use Rattle.net_types.specs.Cutting.{◌>>=◌}
use Rattle.net_types.specs.FirstBadLine.{FirstBad, IsSpelled}
use Rattle.net_types.specs.LineReading.{Stopped}
use Rattle.net_types.specs.Marks.{is_printable}
use Rattle.net_types.specs.TextLines as TextLines
use Rattle.net_types.specs.TextLines.{Front}
use Rattle.script_model.specs.Lines.{Line}
use Rattle.transcript_lines.specs.LineReading.{line_at}
use Rattle.transcript_model.specs.Told.{BodyTold, body_lines}
use Rattle.transcript_model.specs.Transcripts.{SpellsBody}
use Rattle.transcript_read.specs.declared.body.BodyAnswer.{BodyAnswer}
use Rattle.transcript_read.specs.declared.body.BodyAnswer.TheVariants as answers
use Rattle.transcript_read.specs.declared.place.Place.{Place}
use Rattle.transcript_read.specs.declared.place.Place.TheVariants as places
use Rattle.transcript_read.specs.Places.{Spot, first_spot, next_spot}

-- where the next line stands, and what goes through the lines
pub record Reading (J : Type 0) : Type 0 where
  pub spot : Spot
  pub judge : J

abbrev pub take_line : {J : Type 0} → (J → Line → J) → Reading J → Line → Option (Reading J)
take_line after reading line =
    option_map (λ spot. record { spot = spot; judge = after reading.judge line }) (next_spot reading.spot line)

unfoldable pub step : {J : Type 0} → (J → Line → J) → Reading J → List ℕ → Option (Reading J)
step after reading text = if list_all is_printable text then (line_at text >>= take_line after reading) else None

-- a body ends with a life
abbrev pub is_end : Place → Bool
is_end (places.Between lives) = true
is_end _ = false

unfoldable pub given : {J : Type 0} → Reading J → Option J
given reading = if is_end reading.spot.place then Some reading.judge else None

abbrev pub no_cause : {J : Type 0} → Reading J → Front → BadText
no_cause reading front = record {}

-- the line at which reading stopped, or memory ran out
abbrev pub StopsIn : {J : Type 0} → (J → Line → J) → Reading J → List ℕ → BodyAnswer → Type 0
StopsIn after start text (answers.Bad line) = Stopped (step after) given no_cause start text line (record {})
StopsIn after start text answers.NoMemory = Unit {0}

abbrev pub first_reading : {J : Type 0} → J → Reading J
first_reading first = record { spot = first_spot; judge = first }

-- ---- what is promised

-- all lines, one after another
abbrev pub followed : {J : Type 0} → (J → Line → J) → J → List Line → J
followed after judge [] = judge
followed after judge (line ∷ lines) = followed after (after judge line) lines

-- the text is the body of a transcript, and this is what comes of its lines
pub record IsFollowed {J : Type 0} (after : J → Line → J) (text : List ℕ) (first end : J) : Type 0 where
  pub body : BodyTold
  pub spelled : IsSpelled SpellsBody text body
  pub follows : end ≡ followed after first (body_lines body)

abbrev pub AnyCause : List TextLines.Line → Front → Unit {0} → Type 0
AnyCause lines front cause = Unit {0}

-- the first bad line: some body begins with the lines before it, and none goes on with it; where the text ends there,
-- it is none
abbrev pub IsBadAt : List ℕ → ℕ → Type 0
IsBadAt text number = FirstBad SpellsBody AnyCause text number tt

abbrev pub IsNoBody : List ℕ → BodyAnswer → Type 0
IsNoBody text (answers.Bad line) = IsBadAt text line
IsNoBody text answers.NoMemory = Unit {0}
