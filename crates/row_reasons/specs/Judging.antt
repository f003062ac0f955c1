-- What is judged of the interfaces of a life after some turns.
use Rattle.std.specs.Prelude.{◌≡◌, List}
use Rattle.audit_words.specs.EvidenceWords.Entries.{Entry}
use Rattle.audit_words.specs.EvidenceWords.IfaceLives.{now_in}
use Rattle.transcript_audit.specs.AuditSeats.Seats.{AllTell}
use Rattle.transcript_audit.specs.IfaceJudges.Telling.{Tells}
use Rattle.row_reasons.specs.declared.finding.Judged.{Judged}

-- each judge is after these turns, and the moment is that of the last one
pub record IsAfter (past : List Entry) (judged : Judged) : Type 0 where
  pub tell : AllTell Tells past judged.watched.items
  pub moment : judged.moment ≡ now_in past
