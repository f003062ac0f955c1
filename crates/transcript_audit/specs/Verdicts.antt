-- What is said of a text: that it is a transcript, and whether each address that it shows on a managed interface has
-- its basis.
use Rattle.std.specs.Prelude.{ℕ, List}
use Rattle.iface_judge.specs.Evidence.Laws.{HasBasisIn}
use Rattle.iface_judge.specs.Lease6Judge.HeardBasis.{HeardBasis}
use Rattle.transcript_read.specs.Whole.{IsBadLine}
use Rattle.iface_judge.specs.AuditModel.Verdicts.{BasisWord, IsYes, IsNo}
use Rattle.iface_judge.specs.Laws.{HeardAddress}
use Rattle.transcript_audit.specs.declared.verdict.Verdict.{Verdict}
use Rattle.transcript_audit.specs.declared.verdict.Verdict.TheVariants as verdicts

-- An address has its basis in what was shown, on its interface or as a share of the prefixes of another one. Any Reply
-- may give an address or a prefix, not the first one alone.
abbrev pub HasBasisShown : BasisWord
HasBasisShown = HasBasisIn HeardAddress HeardBasis

-- so it is with the text
abbrev pub IsJudged : (text : List ℕ) → Verdict → Type 0
IsJudged text (verdicts.Yes lives turns) = IsYes HasBasisShown text lives turns
IsJudged text (verdicts.No life turn row) = IsNo HasBasisShown text life turn row

-- The text is no transcript, and this is the first line with which none goes on; where it ends early, the line after
-- its last.
abbrev pub NamesBad : (text : List ℕ) → (line : ℕ) → Type 0
NamesBad text line = IsBadLine text line
