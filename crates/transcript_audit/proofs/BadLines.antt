-- A text has one first bad line.
use Rattle.std.proofs.Common.{◌≡◌, ℕ, ◌<◌, List, [], ◌∷◌, ◌++◌, length, Some, refl, sym, ap, ◌∙◌, subst, arith, append_assoc, ◌⊎◌, inl, inr}
use Rattle.std.proofs.lemmas.Bool.{cases_lt}
use Rattle.net_types.specs.Cutting.{split_at_byte}
use Rattle.net_types.specs.FirstBadLine.{Breaks, FirstBad}
use Rattle.net_types.specs.Marks.{Lacks}
use Rattle.net_types.specs.TextLines.{AreLines, Front, Line, Whole, ended, front_by, front_in, lines_text}
use Rattle.net_types.proofs.LineSteps.{text_more}
use Rattle.net_types.proofs.ReadsLaws.{some_same, split_whole}

first_line : (line : Line) (rest : List ℕ) → Lacks 10 line → split_at_byte 10 (ended line ++ rest) ≡ Some (line, rest)
first_line line rest free = ap (split_at_byte 10) (append_assoc line (10 ∷ []) rest) ∙ split_whole 10 line rest free

front_line : (line : Line) (rest : List ℕ) → Lacks 10 line → front_in (ended line ++ rest) ≡ Whole line
front_line [] rest free = ap (front_by (10 ∷ rest)) (first_line [] rest free)
front_line (byte ∷ line) rest free = ap (front_by (ended (byte ∷ line) ++ rest)) (first_line (byte ∷ line) rest free)

-- of one text, more lines were cut off
record Further (fewer : List Line) (rest : List ℕ) (lines : List Line) : Type 0 where
  line : Line
  more : List Line
  are : lines ≡ fewer ++ line ∷ more
  next : front_in rest ≡ Whole line

cut_further : (fewer lines : List Line) (rest other : List ℕ) → AreLines fewer → AreLines lines → lines_text fewer ++ rest ≡ lines_text lines ++ other
    → length fewer < length lines → Further fewer rest lines
cut_further [] [] rest other few are same less = absurd (omega (arith, less))
cut_further (first ∷ fewer) [] rest other few are same less = absurd (omega (arith, less))
cut_further [] (line ∷ lines) rest other few are same less =
    record {
      line = line;
      more = lines;
      are = refl;
      next = ap front_in (same ∙ append_assoc (ended line) (lines_text lines) other) ∙ front_line line (lines_text lines ++ other) are.0;
    }
cut_further (first ∷ fewer) (line ∷ lines) rest other few are same less =
    let both =
    some_same (sym (first_line first (lines_text fewer ++ rest) few.0)
    ∙ ap (split_at_byte 10) (sym (append_assoc (ended first) (lines_text fewer) rest) ∙ same ∙ append_assoc (ended line) (lines_text lines) other)
    ∙ first_line line (lines_text lines ++ other) are.0) in
    let begun : first ≡ line = ap (λ p. p.0) both in
    let later = cut_further fewer lines rest other few.1 are.1 (ap (λ p. p.1) both) (omega (arith, less)) in
    record {
      line = later.line;
      more = later.more;
      are = ap (λ l. l ∷ lines) (sym begun) ∙ ap (λ ls. first ∷ ls) later.are;
      next = later.next;
    }

module _ {V C : Type 0} {Spells : V → List Line → Type 0} {Why : List Line → Front → C → Type 0} (text : List ℕ) where
  -- a bad line isn't among the lines before another
  never_before : (a b : ℕ) (cause other : C) (first : FirstBad Spells Why text a cause) (second : FirstBad Spells Why text b other)
      → length first.lines < length second.lines → ⊥
  never_before a b cause other first second less =
      let f = cut_further first.lines second.lines first.rest second.rest first.are second.are (sym first.cut ∙ second.cut) less in
      let none = subst (Breaks Spells text first.lines) f.next first.breaks in
      let begins = second.before in
      let longer : lines_text second.lines ≡ (lines_text first.lines ++ ended f.line) ++ lines_text f.more =
      ap lines_text f.are ∙ text_more first.lines (f.line ∷ f.more) ∙ sym (append_assoc (lines_text first.lines) (ended f.line) (lines_text f.more)) in
      none begins.value begins.lines begins.spells (lines_text f.more ++ begins.more)
      (begins.goes_on ∙ ap (λ t. t ++ begins.more) longer
      ∙ append_assoc (lines_text first.lines ++ ended f.line) (lines_text f.more) begins.more)

  pub bad_line_once : (a b : ℕ) (cause other : C) → FirstBad Spells Why text a cause → FirstBad Spells Why text b other → a ≡ b
  bad_line_once a b cause other first second =
      elim (cases_lt (length first.lines) (length second.lines)) [
        | inl less ↦ absurd (never_before a b cause other first second less)
        | inr not_less ↦
            elim (cases_lt (length second.lines) (length first.lines)) [
              | inl less ↦ absurd (never_before b a other cause second first less)
              | inr no_more ↦
                  let one = first.counted in
                  let two = second.counted in
                  omega (arith, one, two, not_less, no_more)
            ]
      ]
