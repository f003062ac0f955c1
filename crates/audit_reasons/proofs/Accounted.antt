-- The lines that come of a text are those on its lives, after a yes.
use Rattle.std.proofs.Common.{◌≡◌, ℕ, List, sym, ap, subst, ◌∙◌}
use Rattle.transcript_model.specs.Told.{Told}
use Rattle.transcript_read.specs.Following.{Reaches}
use Rattle.transcript_read.specs.Whole.{IsFollowedWhole, TranscriptsAreOne}
use Rattle.row_reasons.specs.AuditModel.Verdicts.{IsYes, Justified}
use Rattle.row_reasons.specs.TranscriptAudit.Verdicts.{HasBasisShown}
use Rattle.row_reasons.specs.BasisTurns.BasisShown.{FoundAreShown}
use Rattle.row_reasons.specs.ReasonLines.{LifeJudged, said_of}
use Rattle.row_reasons.specs.declared.line.BasisLine.{BasisLine}
use Rattle.audit_reasons.specs.Accounts.{AreLinesOf, IsExplained}
use Rattle.audit_reasons.specs.Explaining.{Explaining, after, first}
use Rattle.audit_reasons.specs.Holding.{Explains}
use Rattle.audit_reasons.specs.Saying.{IsSaidOf}
use Rattle.audit_reasons.specs.declared.explainer.Explainer.{Explainer}
use Rattle.audit_reasons.proofs.LinesMade.{lives_said}
use Rattle.audit_reasons.proofs.LivesSaid.{lives_ended}

pub said_at_end : (text : List ℕ) (explainer : Explainer) → Reaches Explains (IsFollowedWhole first after text) explainer
    → IsSaidOf text explainer.lines.items
said_at_end text explainer reached = record { end = reached.state; follows = reached.comes; says = reached.tells.lines }

pub explained : FoundAreShown → TranscriptsAreOne → (text : List ℕ) (lives turns : ℕ) (lines : List BasisLine) → IsYes HasBasisShown text lives turns
    → IsSaidOf text lines → IsExplained text lines
explained found one text lives turns lines judged said =
    let told = said.follows.told in
    let same : judged.told ≡ told = one text judged.told told judged.spelled said.follows.spelled in
    let just = subst (λ (t : Told). Justified HasBasisShown t) same judged.just in
    let ended = ap (λ (s : Explaining). s.ended) said.follows.follows ∙ lives_ended told said.follows.spelled.spells.spells.fits in
    record {
      told = told;
      spelled = said.follows.spelled;
      are =
          subst (λ (l : List BasisLine). AreLinesOf told 1 told.body.lives l) (sym (said.says ∙ ap (λ (e : List LifeJudged). said_of e) ended))
          (lives_said found told 1 told.body.lives just);
    }
