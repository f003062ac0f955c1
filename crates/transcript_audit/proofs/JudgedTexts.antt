-- What judges of interfaces say of a text is so: they tell which addresses have their basis.
use Rattle.std.proofs.Common.{◌≡◌, ℕ, ◌<◌, ◌≤◌, ◌^◌, List, length, sym, subst, ◌∙◌, arith}
use Rattle.world.specs.declared.rows.HostRow.{HostRow}
use Rattle.iface_judge.specs.AuditModel.Auditing.{Judge}
use Rattle.iface_judge.specs.AuditModel.Laws.{audited}
use Rattle.iface_judge.specs.AuditModel.Verdicts.{FirstUnjust, IsNo, IsYes}
use Rattle.iface_judge.proofs.AuditModel.Found.{said}
use Rattle.iface_judge.specs.AuditSeats.Tests.{judged_by}
use Rattle.audit_follower.specs.Holding.{counted}
use Rattle.iface_judge.specs.Among.{AllAreTold}
use Rattle.iface_judge.specs.Joined.{is_own, is_shared}
use Rattle.transcript_audit.specs.declared.verdict.Verdict.{Verdict}
use Rattle.transcript_audit.specs.declared.verdict.Verdict.TheVariants as verdicts
use Rattle.transcript_audit.specs.Saying.{IsAuditedBy}
use Rattle.transcript_audit.specs.Verdicts.{HasBasisShown, IsJudged}
use Rattle.transcript_audit.proofs.TurnCounts.{turn_in_told, turns_in_text}

abbrev pub test : Judge
test = judged_by is_own is_shared

-- a text has fewer turns than a count can tell
exact : (text : List ℕ) (n : ℕ) → length text < 2 ^ 64 → n ≤ length text → counted n ≡ n
exact text n short few = omega (arith, short, few)

yes_so : (law : AllAreTold) (text : List ℕ) (lives turns : ℕ) → length text < 2 ^ 64 → IsAuditedBy test text (verdicts.Yes lives turns)
    → IsYes HasBasisShown text lives turns
yes_so law text lives turns short by =
    let so = (said test HasBasisShown law text by.told by.spelled).yes by.says.none in
    let few = subst (λ n. n ≤ length text) (sym so.turns_are) (turns_in_text text so.told so.spelled) in
    record {
      told = so.told;
      spelled = so.spelled;
      just = so.just;
      lives_are = by.says.lives_are ∙ so.lives_are;
      turns_are = by.says.turns_are ∙ exact text (audited test by.told).turns short few ∙ so.turns_are;
    }

no_so : (law : AllAreTold) (text : List ℕ) (life turn : ℕ) (row : HostRow) → length text < 2 ^ 64 → IsAuditedBy test text (verdicts.No life turn row)
    → IsNo HasBasisShown text life turn row
no_so law text life turn row short by =
    let found = by.says.found in
    let so = (said test HasBasisShown law text by.told by.spelled).no found by.says.is in
    let first = turn_in_told HasBasisShown so.told found.life found.turn found.row so.first in
    let all = turns_in_text text so.told so.spelled in
    let few : found.turn ≤ length text = omega arith in
    let turn_is = by.says.turn_is ∙ exact text found.turn short few in
    record {
      told = so.told;
      spelled = so.spelled;
      first =
          subst (λ n. FirstUnjust HasBasisShown so.told n turn row) (sym by.says.life_is)
          (subst (λ n. FirstUnjust HasBasisShown so.told found.life n row) (sym turn_is)
          (subst (λ r. FirstUnjust HasBasisShown so.told found.life found.turn r) (sym by.says.row_is) so.first));
    }

pub judged_so : (law : AllAreTold) (text : List ℕ) (verdict : Verdict) → length text < 2 ^ 64 → IsAuditedBy test text verdict → IsJudged text verdict
judged_so law text (verdicts.Yes lives turns) short by = yes_so law text lives turns short by
judged_so law text (verdicts.No life turn row) short by = no_so law text life turn row short by
