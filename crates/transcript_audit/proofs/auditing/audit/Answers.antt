use Rattle.std.proofs.Common.{◌<◌, ◌^◌, length, rules}
use Rattle.std.proofs.lemmas.Result.{IfOk-weaker}
use Rattle.transcript_audit.specs.Saying.{IsAuditedBy}
use Rattle.transcript_audit.specs.Verdicts.{IsJudged}
use Rattle.transcript_audit.proofs.JudgedTexts.{judged_so, test}
use Rattle.transcript_audit.proofs.auditing.audit.Goals as goal

pub returns-clause-judged : goal.returns-clause-judged
returns-clause-judged c =
    let short : length c.args.text.now < 2 ^ 64 = search rules in
    IfOk-weaker c.audited.result (IsAuditedBy test c.args.text.now) (IsJudged c.args.text.now)
    (λ verdict by. judged_so c.all_addresses_are_told.ensures c.args.text.now verdict short by) c.audited.ensures.judged
