-- What an auditor has found is what is said.
use Rattle.std.proofs.Common.{◌≡◌, ℕ, List, Option, Some, None, refl, subst}
use Rattle.transcript_read.specs.Following.{Reaches}
use Rattle.transcript_read.specs.Whole.{IsFollowedWhole}
use Rattle.iface_judge.specs.AuditModel.Auditing.{Auditing, Judge, Unjust, after, first}
use Rattle.iface_judge.specs.AuditSeats.Seats.{Telling}
use Rattle.audit_follower.specs.declared.auditor.Auditor.{Auditor}
use Rattle.audit_follower.specs.declared.unjust.Unjust as code
use Rattle.audit_follower.specs.Holding.{Audits, Finds}
use Rattle.transcript_audit.specs.declared.judging.Judging.{Judging}
use Rattle.transcript_audit.specs.declared.verdict.Verdict.{Verdict}
use Rattle.transcript_audit.specs.Saying.{IsAuditedBy, Says, SaysNo, SaysYes}

none_found : (unjust : Option Unjust) → Finds None unjust → unjust ≡ None
none_found None finds = refl
none_found (Some unjust) finds = absurd finds

pub says_yes : {J : Type 0} (Tells : Telling J) (auditor : Auditor J) (kept : Auditing) → Audits Tells auditor kept → Finds None kept.unjust
    → SaysYes auditor.lives auditor.turns kept
says_yes Tells auditor kept audits finds = record { none = none_found kept.unjust finds; lives_are = audits.lives; turns_are = audits.turns }

pub says_no : (found : code.Unjust) (unjust : Option Unjust) → Finds (Some found) unjust → SaysNo found.life found.turn found.row unjust
says_no found None finds = absurd finds
says_no found (Some unjust) finds = record { found = unjust; is = refl; life_is = finds.life; turn_is = finds.turn; row_is = finds.row }

-- what is said of lines that all went through
pub said_at_end : {J : Type 0} (Tells : Telling J) (judge : Judge) (text : List ℕ) (judging : Judging J) (verdict : Verdict)
    → Reaches (λ (end : Judging J) kept. Audits Tells end.auditor kept) (IsFollowedWhole first (after judge) text) judging
    → ((kept : Auditing) → Audits Tells judging.auditor kept → Says verdict kept) → IsAuditedBy judge text verdict
said_at_end Tells judge text judging verdict reached says =
    let comes = reached.comes in
    record { told = comes.told; spelled = comes.spelled; says = subst (Says verdict) comes.follows (says reached.state reached.tells) }
