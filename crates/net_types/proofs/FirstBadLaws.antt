-- A reader of lines that takes every good text, and that can always be brought to an end, finds the first bad line.
use Rattle.std.proofs.Common.{◌≡◌, ◌≢◌, ℕ, List, [], ◌∷◌, ◌++◌, Option, Some, None, option_and_then, refl, sym, ap, ◌∙◌, subst, append_assoc}
use Rattle.std.proofs.lemmas.List.{append-nil}
use Rattle.std.proofs.lemmas.Option.{none-some}
use Rattle.net_types.specs.declared.text_lines.TextFault.{TextFault}
use Rattle.net_types.specs.declared.text_lines.TextFault.TheVariants.{Bad, NoMemory}
use Rattle.net_types.specs.Cutting.{split_at_byte}
use Rattle.net_types.specs.Marks.{Lacks}
use Rattle.net_types.specs.TextLines.{Line, ended, lines_text, AreLines, Front, front_by, front_in}
use Rattle.net_types.specs.FirstBadLine.{Begins, NoneBegins, NoneIs, Breaks, FirstBad, FirstFault, IsSpelled}
use Rattle.net_types.specs.LineReading.{run, Gives, StopsAt, Stopped, Stops}
use Rattle.net_types.specs.LineFormats.{WholeRun, LineLaws}
use Rattle.net_types.proofs.ReadsLaws.{split_whole, split_sound, some_same}
use Rattle.net_types.proofs.LineSteps.{text_more, run_more}

-- ---- texts and lines

one_line : (line : Line) (rest : List ℕ) → Lacks 10 line → split_at_byte 10 (ended line ++ rest) ≡ Some (line, rest)
one_line line rest lacks = ap (split_at_byte 10) (append_assoc line (10 ∷ []) rest) ∙ split_whole 10 line rest lacks

no_line : (line : Line) (rest : List ℕ) → split_at_byte 10 [] ≡ Some (line, rest) → ⊥
unfolding split_at_byte
no_line line rest e = none-some (line, rest) e

-- all lines go on after these
pub record GoesOn (lines all : List Line) (rest : List ℕ) : Type 0 where
  pub more : List Line
  pub whole : all ≡ lines ++ more
  pub are : AreLines more
  pub text : rest ≡ lines_text more

pub goes_on : (lines all : List Line) (rest : List ℕ) → AreLines lines → AreLines all → lines_text all ≡ lines_text lines ++ rest → GoesOn lines all rest
goes_on [] all rest these are e = record { more = all; whole = refl; are = are; text = sym e }
goes_on (line ∷ lines) [] rest these are e =
    absurd
    (no_line line (lines_text lines ++ rest)
    (ap (split_at_byte 10) (e ∙ append_assoc (ended line) (lines_text lines) rest) ∙ one_line line (lines_text lines ++ rest) these.0))
goes_on (line ∷ lines) (other ∷ all) rest these are e =
    let both : Some (other, lines_text all) ≡ Some (line, lines_text lines ++ rest) =
    sym (one_line other (lines_text all) are.0) ∙ ap (split_at_byte 10) (e ∙ append_assoc (ended line) (lines_text lines) rest)
    ∙ one_line line (lines_text lines ++ rest) these.0 in
    let same : other ≡ line = ap (λ p. p.0) (some_same both) in
    let after : lines_text all ≡ lines_text lines ++ rest = ap (λ p. p.1) (some_same both) in
    let next = goes_on lines all rest these.1 are.1 after in
    record { more = next.more; whole = ap (λ l. l ∷ all) same ∙ ap (λ ls. line ∷ ls) next.whole; are = next.are; text = next.text }

no_more : (more : List Line) → AreLines more → [] ≡ lines_text more → more ≡ []
no_more [] are e = refl
no_more (line ∷ more) are e = absurd (no_line line (lines_text more) (ap (split_at_byte 10) e ∙ one_line line (lines_text more) are.0))

-- ---- what was taken

after_from : {S V C : Type 0} {Spells : V → List Line → Type 0} {Why : List Line → Front → C → Type 0} {step : S → Line → Option S} {given : S → Option V}
    {cause_of : S → Front → C} {start : S} {After : S → List Line → Type 0} (law : LineLaws Spells Why step given cause_of After start)
    → (before lines : List Line) (s t : S) → After s before → run step lines s ≡ Some t → After t (before ++ lines)
after_from {After = After} law before [] s t here e = subst (λ ls. After t ls) (sym (append-nil before)) (subst (λ u. After u before) (some_same e) here)
after_from {step = step} {After = After} law before (line ∷ lines) s t here e =
    elim (step s line) as (λ o. step s line ≡ o → option_and_then (run step lines) o ≡ Some t → After t (before ++ line ∷ lines)) [
      | None ↦ λ is q. absurd (none-some t q)
      | Some next ↦ λ is q.
          subst (λ ls. After t ls) (append_assoc before (line ∷ []) lines)
          (after_from law (before ++ line ∷ []) lines next t (law.takes s next before line here is) q)
    ] refl e

after : {S V C : Type 0} {Spells : V → List Line → Type 0} {Why : List Line → Front → C → Type 0} {step : S → Line → Option S} {given : S → Option V}
    {cause_of : S → Front → C} {start : S} {After : S → List Line → Type 0} (law : LineLaws Spells Why step given cause_of After start)
    → (lines : List Line) (t : S) → run step lines start ≡ Some t → After t lines
after {start = start} law lines t e = after_from law [] lines start t law.begins e

-- some good text begins with the lines that were taken
begins : {S V C : Type 0} {Spells : V → List Line → Type 0} {Why : List Line → Front → C → Type 0} {step : S → Line → Option S} {given : S → Option V}
    {cause_of : S → Front → C} {start : S} {After : S → List Line → Type 0} (law : LineLaws Spells Why step given cause_of After start)
    → (lines : List Line) (t : S) → run step lines start ≡ Some t → Begins Spells (lines_text lines)
begins law lines t e =
    let c = law.completes t lines (after law lines t e) in
    record { value = c.value; lines = lines ++ c.more; spells = c.spells; more = lines_text c.more; goes_on = text_more lines c.more }

-- how the lines of a good text go on after those taken
rest_runs : {S V C : Type 0} {Spells : V → List Line → Type 0} {Why : List Line → Front → C → Type 0} {step : S → Line → Option S} {given : S → Option V}
    {cause_of : S → Front → C} {start : S} {After : S → List Line → Type 0} (law : LineLaws Spells Why step given cause_of After start)
    → (lines all : List Line) (rest : List ℕ) (t : S) (value : V) → run step lines start ≡ Some t → Spells value all → (g : GoesOn lines all rest)
    → WholeRun step given t g.more value
rest_runs {step = step} {start = start} law lines all rest t value e spells g =
    let w = law.whole value all spells in
    record {
      state = w.state;
      runs = sym (run_more step lines g.more start t e) ∙ ap (λ ls. run step ls start) (sym g.whole) ∙ w.runs;
      gives = w.gives;
    }

-- ---- the theorem

-- no good text goes on with a refused line
refused_breaks : {S V C : Type 0} {Spells : V → List Line → Type 0} {Why : List Line → Front → C → Type 0} {step : S → Line → Option S} {given : S → Option V}
    {cause_of : S → Front → C} {start : S} {After : S → List Line → Type 0} (law : LineLaws Spells Why step given cause_of After start)
    → (lines : List Line) (line : Line) (t : S) → AreLines lines → Lacks 10 line → run step lines start ≡ Some t → step t line ≡ None
    → NoneBegins Spells (lines_text lines ++ ended line)
refused_breaks {step = step} law lines line t are lacks e refused value all spells more same =
    let g = goes_on lines all (ended line ++ more) are (law.are value all spells) (same ∙ append_assoc (lines_text lines) (ended line) more) in
    let w = rest_runs law lines all (ended line ++ more) t value e spells g in
    never step g.more line more t w.state lacks g.are g.text refused w.runs
  where
    never : {S : Type 0} (step : S → Line → Option S) (all : List Line) (line : Line) (more : List ℕ) (t u : S) → Lacks 10 line → AreLines all
        → ended line ++ more ≡ lines_text all → step t line ≡ None → run step all t ≡ Some u → ⊥
    never step [] line more t u lacks are e refused r = no_line line more (sym (ap (split_at_byte 10) e) ∙ one_line line more lacks)
    never step (other ∷ all) line more t u lacks are e refused r =
        let both : Some (other, lines_text all) ≡ Some (line, more) =
        sym (one_line other (lines_text all) are.0) ∙ sym (ap (split_at_byte 10) e) ∙ one_line line more lacks in
        let same : other ≡ line = ap (λ p. p.0) (some_same both) in
        none-some u (sym (ap (option_and_then (run step all)) (ap (step t) same ∙ refused)) ∙ r)

-- a good text has no last line without a line feed
unended_breaks : {S V C : Type 0} {Spells : V → List Line → Type 0} {Why : List Line → Front → C → Type 0} {step : S → Line → Option S} {given : S → Option V}
    {cause_of : S → Front → C} {start : S} {After : S → List Line → Type 0} (law : LineLaws Spells Why step given cause_of After start)
    → (lines : List Line) (text rest : List ℕ) → AreLines lines → text ≡ lines_text lines ++ rest → rest ≢ [] → split_at_byte 10 rest ≡ None
    → NoneIs Spells text
unended_breaks law lines text rest are cut some none value all spells same =
    let g = goes_on lines all rest are (law.are value all spells) (sym same ∙ cut) in
    unread rest g.more some none g.are g.text
  where
    unread : (rest : List ℕ) (more : List Line) → rest ≢ [] → split_at_byte 10 rest ≡ None → AreLines more → rest ≡ lines_text more → ⊥
    unread rest [] some none are e = some e
    unread rest (line ∷ more) some none are e = none-some (line, lines_text more) (sym none ∙ ap (split_at_byte 10) e ∙ one_line line (lines_text more) are.0)

-- the lines of a good text are taken to its value
end_breaks : {S V C : Type 0} {Spells : V → List Line → Type 0} {Why : List Line → Front → C → Type 0} {step : S → Line → Option S} {given : S → Option V}
    {cause_of : S → Front → C} {start : S} {After : S → List Line → Type 0} (law : LineLaws Spells Why step given cause_of After start)
    → (lines : List Line) (text : List ℕ) (t : S) → AreLines lines → run step lines start ≡ Some t → text ≡ lines_text lines ++ [] → given t ≡ None
    → NoneIs Spells text
end_breaks {step = step} {given = given} law lines text t are e cut none value all spells same =
    let g = goes_on lines all [] are (law.are value all spells) (sym same ∙ cut) in
    let w = rest_runs law lines all [] t value e spells g in
    let state : t ≡ w.state = some_same (sym (ap (λ ls. run step ls t) (no_more g.more g.are g.text)) ∙ w.runs) in
    none-some value (sym none ∙ ap given state ∙ w.gives)

breaks : {S V C : Type 0} {Spells : V → List Line → Type 0} {Why : List Line → Front → C → Type 0} {step : S → Line → Option S} {given : S → Option V}
    {cause_of : S → Front → C} {start : S} {After : S → List Line → Type 0} (law : LineLaws Spells Why step given cause_of After start)
    → (lines : List Line) (text rest : List ℕ) (t : S) → AreLines lines → run step lines start ≡ Some t → text ≡ lines_text lines ++ rest
    → StopsAt step given t (front_in rest) → Breaks Spells text lines (front_in rest)
breaks law lines text [] t are e cut stops = end_breaks law lines text t are e cut stops
breaks {Spells = Spells} {step = step} {given = given} law lines text (byte ∷ rest) t are e cut stops =
    elim (split_at_byte 10 (byte ∷ rest)) as
    (λ o. split_at_byte 10 (byte ∷ rest) ≡ o → StopsAt step given t (front_by (byte ∷ rest) o) → Breaks Spells text lines (front_by (byte ∷ rest) o)) [
      | Some parts ↦ λ is refused. refused_breaks law lines parts.0 t are (split_sound 10 (byte ∷ rest) parts.0 parts.1 is).1 e refused
      | None ↦ λ is unended. unended_breaks law lines text (byte ∷ rest) are cut (λ none. cc) is
    ] refl stops

-- the reader that stops has found the first bad line
pub stopped_first : {S V C : Type 0} {Spells : V → List Line → Type 0} {Why : List Line → Front → C → Type 0} {step : S → Line → Option S}
    {given : S → Option V} {cause_of : S → Front → C} {start : S} {After : S → List Line → Type 0} (law : LineLaws Spells Why step given cause_of After start)
    → (text : List ℕ) (number : ℕ) (cause : C) → Stopped step given cause_of start text number cause → FirstBad Spells Why text number cause
stopped_first {Why = Why} law text number cause at =
    let took = at.took in
    record {
      lines = took.lines;
      rest = at.rest;
      are = took.are;
      cut = took.cut;
      counted = took.counted;
      before = begins law took.lines at.state took.runs;
      breaks = breaks law took.lines text at.rest at.state took.are took.runs took.cut at.stops;
      why =
          subst (λ c. Why took.lines (front_in at.rest) c) (sym at.cause)
          (law.tells at.state took.lines (front_in at.rest) (after law took.lines at.state took.runs) at.stops);
    }

pub first_fault : {S V C : Type 0} {Spells : V → List Line → Type 0} {Why : List Line → Front → C → Type 0} {step : S → Line → Option S} {given : S → Option V}
    {cause_of : S → Front → C} {start : S} {After : S → List Line → Type 0} (law : LineLaws Spells Why step given cause_of After start)
    → (text : List ℕ) (fault : TextFault C) → Stops step given cause_of start text fault → FirstFault Spells Why text fault
first_fault law text (Bad number cause) at = stopped_first law text number cause at
first_fault law text NoMemory at = tt

-- the reader that gives a value has read lines that spell it
pub given_spelled : {S V C : Type 0} {Spells : V → List Line → Type 0} {Why : List Line → Front → C → Type 0} {step : S → Line → Option S}
    {given : S → Option V} {cause_of : S → Front → C} {start : S} {After : S → List Line → Type 0} (law : LineLaws Spells Why step given cause_of After start)
    → (text : List ℕ) (value : V) → Gives step given start text value → IsSpelled Spells text value
given_spelled law text value gives =
    let took = gives.took in
    record {
      lines = took.lines;
      spells = law.ends gives.state took.lines value (after law took.lines gives.state took.runs) gives.gives;
      text_is = took.cut ∙ append-nil (lines_text took.lines);
    }
