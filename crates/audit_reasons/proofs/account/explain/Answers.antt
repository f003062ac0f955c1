use Rattle.std.proofs.Common.{subst, sym}
use Rattle.row_reasons.specs.TranscriptAudit.declared.verdict.Verdict.{Verdict}
use Rattle.row_reasons.specs.TranscriptAudit.Verdicts.{IsJudged}
use Rattle.audit_reasons.specs.Accounts.{AccountsFor}
use Rattle.audit_reasons.proofs.Accounted.{explained}
use Rattle.audit_reasons.proofs.account.explain.Goals as goal

pub returns-in_ok-lines_of-in-Yes-clause-accounts : goal.returns-in_ok-lines_of-in-Yes-clause-accounts
returns-in_ok-lines_of-in-Yes-clause-accounts c =
    let lines = c.in_ok-lines_of-in-Yes.field-0.items in
    subst (λ (v : Verdict). AccountsFor c.args.text.now v lines) (sym c.in-Yes.is)
    (explained c.found_bases_are_shown.ensures c.a_text_is_one_transcript.ensures c.args.text.now c.in-Yes.lives c.in-Yes.turns lines
    (subst (λ (v : Verdict). IsJudged c.args.text.now v) c.in-Yes.is c.in_ok-verdict.ensures.judged) c.in_ok-lines_of-in-Yes.ensures.said)
