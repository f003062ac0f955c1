-- A text is judged in one way at most, or has one bad line.
use Rattle.std.proofs.Common.{◌≡◌, ℕ, List, length, sym, ap, subst, ◌∙◌}
use Rattle.lease_text.proofs.SpelledOnce.{no_bad_line}
use Rattle.world.specs.declared.rows.HostRow.{HostRow}
use Rattle.transcript_model.specs.Told.{Told}
use Rattle.transcript_read.specs.Whole.{TranscriptsAreOne}
use Rattle.iface_judge.specs.AuditModel.Auditing.{Unjust}
use Rattle.iface_judge.specs.AuditModel.Laws.{HasOneVerdict}
use Rattle.iface_judge.specs.AuditModel.Verdicts.{FirstUnjust, IsNo, IsYes, Justified, turns_told}
use Rattle.iface_judge.proofs.AuditModel.Found.{has_one}
use Rattle.iface_judge.specs.Among.{AllAreTold}
use Rattle.transcript_audit.specs.declared.verdict.Verdict.{Verdict}
use Rattle.transcript_audit.specs.declared.verdict.Verdict.TheVariants as verdicts
use Rattle.transcript_audit.specs.Laws.{AVerdictIsOne}
use Rattle.transcript_audit.specs.Verdicts.{HasBasisShown, IsJudged, NamesBad}
use Rattle.transcript_audit.proofs.BadLines.{bad_line_once}
use Rattle.transcript_audit.proofs.JudgedTexts.{test}

module _ (law : AllAreTold) (texts : TranscriptsAreOne) (text : List ℕ) where
  yes_once : (lives turns more others : ℕ) → IsYes HasBasisShown text lives turns → IsYes HasBasisShown text more others
      → verdicts.Yes lives turns ≡ verdicts.Yes more others
  yes_once lives turns more others a b =
      let same = texts text a.told b.told a.spelled b.spelled in
      let lives_same : lives ≡ more = a.lives_are ∙ ap (λ (told : Told). length told.body.lives) same ∙ sym b.lives_are in
      let turns_same : turns ≡ others = a.turns_are ∙ ap turns_told same ∙ sym b.turns_are in
      ap (λ n. verdicts.Yes n turns) lives_same ∙ ap (λ n. verdicts.Yes more n) turns_same

  never_both : (lives turns life turn : ℕ) (row : HostRow) → IsYes HasBasisShown text lives turns → IsNo HasBasisShown text life turn row → ⊥
  never_both lives turns life turn row a b =
      let same = texts text a.told b.told a.spelled b.spelled in
      let one : HasOneVerdict HasBasisShown b.told = has_one test HasBasisShown law b.told b.spelled.spells.spells.fits in
      one.one life turn row (subst (λ told. Justified HasBasisShown told) same a.just) b.first

  no_once : (life turn number count : ℕ) (row other : HostRow) → IsNo HasBasisShown text life turn row → IsNo HasBasisShown text number count other
      → verdicts.No life turn row ≡ verdicts.No number count other
  no_once life turn number count row other a b =
      let same = texts text a.told b.told a.spelled b.spelled in
      let one : HasOneVerdict HasBasisShown b.told = has_one test HasBasisShown law b.told b.spelled.spells.spells.fits in
      let found =
      one.same (record { life = life; turn = turn; row = row }) (record { life = number; turn = count; row = other })
      (subst (λ told. FirstUnjust HasBasisShown told life turn row) same a.first) b.first in
      ap (λ (u : Unjust). verdicts.No u.life u.turn u.row) found

  judged_once : (a b : Verdict) → IsJudged text a → IsJudged text b → a ≡ b
  judged_once (verdicts.Yes lives turns) (verdicts.Yes more others) a b = yes_once lives turns more others a b
  judged_once (verdicts.Yes lives turns) (verdicts.No life turn row) a b = absurd (never_both lives turns life turn row a b)
  judged_once (verdicts.No life turn row) (verdicts.Yes lives turns) a b = absurd (never_both lives turns life turn row b a)
  judged_once (verdicts.No life turn row) (verdicts.No number count other) a b = no_once life turn number count row other a b

  judged_good : (verdict : Verdict) (line : ℕ) → IsJudged text verdict → NamesBad text line → ⊥
  judged_good (verdicts.Yes lives turns) line a bad = no_bad_line text a.told line tt a.spelled bad
  judged_good (verdicts.No life turn row) line a bad = no_bad_line text a.told line tt a.spelled bad

pub verdict_once : AllAreTold → TranscriptsAreOne → AVerdictIsOne
verdict_once law texts = record {
  one = λ text a b first second. judged_once law texts text a b first second;
  none_bad = λ text verdict line judged bad. judged_good law texts text verdict line judged bad;
  one_bad = λ text a b first second. bad_line_once text a b tt tt first second;
}
