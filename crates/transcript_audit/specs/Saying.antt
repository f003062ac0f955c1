-- What is said of a text at its end, by what was kept of its lines.
use Rattle.std.specs.Prelude.{◌≡◌, ℕ, List, Option, Some, None}
use Rattle.net_types.specs.FirstBadLine.{IsSpelled}
use Rattle.world.specs.declared.rows.HostRow.{HostRow}
use Rattle.transcript_model.specs.Told.{Told}
use Rattle.transcript_model.specs.Transcripts.{SpellsTold}
use Rattle.iface_judge.specs.AuditModel.Auditing.{Auditing, Judge, Unjust}
use Rattle.iface_judge.specs.AuditModel.Laws.{audited}
use Rattle.audit_follower.specs.Holding.{counted}
use Rattle.transcript_audit.specs.declared.verdict.Verdict.{Verdict}
use Rattle.transcript_audit.specs.declared.verdict.Verdict.TheVariants as verdicts

-- nothing was found, and so many lives and turns were counted
pub record SaysYes (lives turns : ℕ) (kept : Auditing) : Type 0 where
  pub none : kept.unjust ≡ None
  pub lives_are : lives ≡ kept.lives
  pub turns_are : turns ≡ counted kept.turns

-- this was found
pub record SaysNo (life turn : ℕ) (row : HostRow) (unjust : Option Unjust) : Type 0 where
  pub found : Unjust
  pub is : unjust ≡ Some found
  pub life_is : life ≡ found.life
  pub turn_is : turn ≡ counted found.turn
  pub row_is : row ≡ found.row

abbrev pub Says : Verdict → Auditing → Type 0
Says (verdicts.Yes lives turns) kept = SaysYes lives turns kept
Says (verdicts.No life turn row) kept = SaysNo life turn row kept.unjust

-- The text is a transcript, and this is said at its end, by a test whether an address has its basis.
pub record IsAuditedBy (judge : Judge) (text : List ℕ) (verdict : Verdict) : Type 0 where
  pub told : Told
  pub spelled : IsSpelled SpellsTold text told
  pub says : Says verdict (audited judge told)
