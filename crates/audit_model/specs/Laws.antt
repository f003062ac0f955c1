-- What is kept at the end of a transcript tells whether all addresses that it shows have their basis.
use Rattle.std.specs.Prelude.{◌≡◌, ℕ, true, length, Some, None, List}
use Rattle.net_types.specs.declared.address.Net.{Net}
use Rattle.net_types.specs.declared.interface.IfIndex.{IfIndex}
use Rattle.net_types.specs.FirstBadLine.{IsSpelled}
use Rattle.world.specs.declared.rows.HostRow.{HostRow}
use Rattle.settings.specs.declared.interfaces.Managed.{Managed}
use Rattle.evidence_words.specs.Entries.{Entry}
use Rattle.evidence_words.specs.Inputs.{Site}
use Rattle.transcript_read.specs.TranscriptModel.Told.{Told, body_lines}
use Rattle.transcript_read.specs.TranscriptModel.Transcripts.{FitsBody, SpellsTold}
use Rattle.transcript_read.specs.Bodies.{followed}
use Rattle.audit_model.specs.Verdicts.{BasisWord, Justified, FirstUnjust, IsYes, IsNo, turns_told}
use Rattle.audit_model.specs.Auditing.{Judge, Auditing, Unjust, after, first}

-- a test says of each address whether it has its basis
pub record Decides (judge : Judge) (Rests : BasisWord) : Type 0 where
  pub yes : (managed : List Managed) (sites : Managed → Site) (past : List Entry) (index : IfIndex) (net : Net)
      → judge managed sites past index net ≡ true → Rests managed sites past index net
  pub no : (managed : List Managed) (sites : Managed → Site) (past : List Entry) (index : IfIndex) (net : Net)
      → Rests managed sites past index net → judge managed sites past index net ≡ true

-- what the test says
abbrev pub SaysSo : Judge → BasisWord
SaysSo judge managed sites past index net = judge managed sites past index net ≡ true

-- what is kept at the end
abbrev pub audited : Judge → Told → Auditing
audited judge told = followed (after judge) (first told.configuration) (body_lines told.body)

-- Nothing was found exactly where all addresses have their basis, and what was found is the first that has none. All
-- lives and turns were counted.
pub record IsAudited (Rests : BasisWord) (told : Told) (end : Auditing) : Type 0 where
  pub just : end.unjust ≡ None → Justified Rests told
  pub none : Justified Rests told → end.unjust ≡ None
  pub first : (life turn : ℕ) (row : HostRow)
      → end.unjust ≡ Some (record { life = life; turn = turn; row = row }) → FirstUnjust Rests told life turn row
  pub found : (life turn : ℕ) (row : HostRow) → FirstUnjust Rests told life turn row
      → end.unjust ≡ Some (record { life = life; turn = turn; row = row })
  pub lives : end.lives ≡ length told.body.lives
  pub turns : end.turns ≡ turns_told told

abbrev pub AuditsTell : Type 0
AuditsTell = (judge : Judge) (told : Told) → FitsBody told.body → IsAudited (SaysSo judge) told (audited judge told)

-- What is kept at the end of a text that is a transcript says one of the two verdicts on it.
pub record SaysVerdict (Rests : BasisWord) (text : List ℕ) (end : Auditing) : Type 0 where
  pub yes : end.unjust ≡ None → IsYes Rests text end.lives end.turns
  pub no : (unjust : Unjust) → end.unjust ≡ Some unjust → IsNo Rests text unjust.life unjust.turn unjust.row

abbrev pub VerdictsAreSaid : Type 0
VerdictsAreSaid = (judge : Judge) (text : List ℕ) (told : Told) → IsSpelled SpellsTold text told
    → SaysVerdict (SaysSo judge) text (audited judge told)

-- A transcript has one verdict: all addresses have their basis, or one of them is the first that has none.
pub record HasOneVerdict (Rests : BasisWord) (told : Told) : Type 0 where
  pub one : (life turn : ℕ) (row : HostRow) → Justified Rests told → FirstUnjust Rests told life turn row → ⊥
  pub same : (a b : Unjust) → FirstUnjust Rests told a.life a.turn a.row → FirstUnjust Rests told b.life b.turn b.row
      → a ≡ b

abbrev pub VerdictsAreOne : Type 0
VerdictsAreOne = (judge : Judge) (told : Told) → FitsBody told.body → HasOneVerdict (SaysSo judge) told
