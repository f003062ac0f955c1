-- One pass of the loop over lines.
use Rattle.std.proofs.Common.{◌≡◌, ℕ, ◌+◌, ◌≤◌, List, [], ◌∷◌, ◌++◌, length, Option, Some, None, option_and_then, refl, sym, ap, ◌∙◌, arith, append_assoc, length-append}
use Rattle.std.proofs.lemmas.List.{append-nil}
use Rattle.std.proofs.lemmas.Option.{none-some}
use Rattle.net_types.specs.Cutting.{split_at_byte}
use Rattle.net_types.specs.Marks.{Lacks}
use Rattle.net_types.specs.TextLines.{Line, ended, lines_text, AreLines}
use Rattle.net_types.specs.LineReading.{run, Took}
use Rattle.net_types.proofs.ReadsLaws.{split_sound, some_same}

pub text_more : (lines more : List Line) → lines_text (lines ++ more) ≡ lines_text lines ++ lines_text more
text_more [] more = refl
text_more (line ∷ lines) more = ap (λ t. ended line ++ t) (text_more lines more) ∙ sym (append_assoc (ended line) (lines_text lines) (lines_text more))

pub run_more : {S : Type 0} (step : S → Line → Option S) (lines more : List Line) (s t : S) → run step lines s ≡ Some t
    → run step (lines ++ more) s ≡ run step more t
run_more step [] more s t e = ap (run step more) (some_same e)
run_more {S} step (line ∷ lines) more s t e =
    elim (step s line) as (λ o. option_and_then (run step lines) o ≡ Some t → option_and_then (run step (lines ++ more)) o ≡ run step more t) [
      | None ↦ λ q. absurd (none-some t q)
      | Some next ↦ λ q. run_more step lines more next t q
    ] e

are_more : (lines : List Line) (line : Line) → AreLines lines → Lacks 10 line → AreLines (lines ++ line ∷ [])
are_more [] line are lacks = (lacks, tt)
are_more (first ∷ lines) line are lacks = (are.0, are_more lines line are.1 lacks)

pub took_none : {S : Type 0} (step : S → Line → Option S) (start : S) (text : List ℕ) → Took step start text text 1 start
took_none step start text = record { lines = []; are = tt; cut = refl; counted = refl; runs = refl }

pub took_next : {S : Type 0} (step : S → Line → Option S) (start : S) (text rest others : List ℕ) (number : ℕ) (state next : S) (line : Line)
    → Took step start text rest number state → split_at_byte 10 rest ≡ Some (line, others) → step state line ≡ Some next
    → Took step start text others (number + 1) next
took_next step start text rest others number state next line took split taken =
    let cut = split_sound 10 rest line others split in
    record {
      lines = took.lines ++ line ∷ [];
      are = are_more took.lines line took.are cut.1;
      cut = took.cut ∙ ap (λ r. lines_text took.lines ++ r) (cut.0 ∙ sym (append_assoc line (10 ∷ []) others))
          ∙ sym (append_assoc (lines_text took.lines) (ended line) others)
          ∙ ap (λ t. t ++ others) (ap (λ e. lines_text took.lines ++ e) (sym (append-nil (ended line))) ∙ sym (text_more took.lines (line ∷ [])));
      counted = ap (λ n. n + 1) (took.counted ∙ sym (length-append took.lines (line ∷ [])));
      runs = run_more step took.lines (line ∷ []) start state took.runs ∙ ap (option_and_then (run step [])) taken;
    }

lines_short : (lines : List Line) → length lines ≤ length (lines_text lines)
lines_short [] = omega arith
lines_short (line ∷ lines) =
    let later = lines_short lines in
    let whole : length (lines_text (line ∷ lines)) ≡ length line + 1 + length (lines_text lines) =
    length-append (ended line) (lines_text lines) ∙ ap (λ n. n + length (lines_text lines)) (length-append line (10 ∷ [])) in
    omega arith

pub took_within : {S : Type 0} (step : S → Line → Option S) (start : S) (text rest : List ℕ) (number : ℕ) (state : S) → Took step start text rest number state
    → number + length rest ≤ length text + 1
took_within step start text rest number state took =
    let short = lines_short took.lines in
    let whole : length text ≡ length (lines_text took.lines) + length rest = ap length took.cut ∙ length-append (lines_text took.lines) rest in
    let same = took.counted in
    omega arith
