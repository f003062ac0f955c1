-- A text is judged in one way at most, or has one bad line.
use Rattle.std.specs.Prelude.{◌≡◌, ℕ, List}
use Rattle.transcript_audit.specs.declared.verdict.Verdict.{Verdict}
use Rattle.transcript_audit.specs.Verdicts.{IsJudged, NamesBad}

pub record AVerdictIsOne : Type 0 where
  pub one : (text : List ℕ) (a b : Verdict) → IsJudged text a → IsJudged text b → a ≡ b
  pub none_bad : (text : List ℕ) (verdict : Verdict) (line : ℕ) → IsJudged text verdict → NamesBad text line → ⊥
  pub one_bad : (text : List ℕ) (a b : ℕ) → NamesBad text a → NamesBad text b → a ≡ b
