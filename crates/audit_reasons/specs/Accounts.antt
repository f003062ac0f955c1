-- What the lines on a transcript say, after a yes.
use Rattle.std.specs.Prelude.{◌≡◌, ℕ, ◌+◌, List, [], ◌∷◌, ◌++◌, filter, map, length, Option, Some, None, if◌then◌else◌}
use Rattle.std.specs.List.{AllByRecursion}
use Rattle.net_types.specs.FirstBadLine.{IsSpelled}
use Rattle.row_reasons.specs.TranscriptAudit.declared.verdict.Verdict.{Verdict}
use Rattle.row_reasons.specs.TranscriptAudit.declared.verdict.Verdict.TheVariants as verdicts
use Rattle.transcript_model.specs.Told.{LifeTold, Told, TurnTold}
use Rattle.transcript_model.specs.Transcripts.{SpellsTold}
use Rattle.row_reasons.specs.AuditModel.Auditing.{is_judged}
use Rattle.row_reasons.specs.AuditModel.Showing.{Shown, managed_told, shown_at_first, shown_next, site_told}
use Rattle.row_reasons.specs.Finding.{or_else}
use Rattle.row_reasons.specs.Reasons.{RowRests}
use Rattle.row_reasons.specs.declared.line.BasisLine.{BasisLine}

-- ---- the last judged turn

-- one in which no call of the host failed
abbrev pub if_judged : Shown → Option Shown
if_judged shown = if shown.failed then None else Some shown

-- what is shown after the last judged one of these turns, or of those before them
abbrev pub last_judged : Shown → List TurnTold → Option Shown
last_judged shown [] = if_judged shown
last_judged shown (turn ∷ turns) = or_else (last_judged (shown_next shown turn) turns) (if_judged shown)

abbrev pub judged_last : LifeTold → Option Shown
judged_last life = last_judged (shown_at_first life) life.turns

-- ---- its lines

-- The line is on this life and this turn of it, and its address rests so on what was shown up to that.
pub record HoldsAfter (told : Told) (number : ℕ) (life : LifeTold) (shown : Shown) (line : BasisLine) : Type 0 where
  pub in_life : line.life ≡ number
  pub after_turn : line.turn ≡ length shown.past
  pub rests : RowRests line.reason (managed_told told) (site_told told life) (shown.entry ∷ shown.past) line.row

-- There is one line on each address that is shown of a managed interface then, in row order, and each holds.
pub record AreReasons (told : Told) (number : ℕ) (life : LifeTold) (shown : Shown) (lines : List BasisLine)
    : Type 0 where
  pub rows : map (λ line. line.row) lines ≡ filter (is_judged (managed_told told)) shown.rows
  pub each : AllByRecursion (HoldsAfter told number life shown) lines

-- a life without a judged turn has no lines
abbrev pub AreLinesAfter : Told → (number : ℕ) → LifeTold → Option Shown → List BasisLine → Type 0
AreLinesAfter told number life None lines = lines ≡ []
AreLinesAfter told number life (Some shown) lines = AreReasons told number life shown lines

-- ---- all lines

-- the lines of the first life, and then those of the others
pub record BeginWith (First Later : List BasisLine → Type 0) (lines : List BasisLine) : Type 0 where
  pub own : List BasisLine
  pub later : List BasisLine
  pub are : lines ≡ own ++ later
  pub first : First own
  pub others : Later later

abbrev pub AreLinesOf : Told → (number : ℕ) → List LifeTold → List BasisLine → Type 0
AreLinesOf told number [] lines = lines ≡ []
AreLinesOf told number (life ∷ lives) lines =
    BeginWith (AreLinesAfter told number life (judged_last life)) (AreLinesOf told (number + 1) lives) lines

-- The text is a transcript, and these are the lines on its lives, which are counted from 1.
pub record IsExplained (text : List ℕ) (lines : List BasisLine) : Type 0 where
  pub told : Told
  pub spelled : IsSpelled SpellsTold text told
  pub are : AreLinesOf told 1 told.body.lives lines

-- after a no nothing is said
abbrev pub AccountsFor : (text : List ℕ) → Verdict → List BasisLine → Type 0
AccountsFor text (verdicts.Yes lives turns) lines = IsExplained text lines
AccountsFor text (verdicts.No life turn row) lines = lines ≡ []
