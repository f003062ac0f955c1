-- The reader of a script's lines finds its first bad line and the cause. A text has one fault at most, and is one script's.
use Rattle.std.proofs.Common.{◌≡◌, ℕ, ◌+◌, Bool, true, false, cond, List, [], ◌∷◌, ◌++◌, flat_map, length, Option, Some, None, ◌⊎◌, inl, inr, refl, sym, ap, ◌∙◌, subst, append_assoc}
use Rattle.std.proofs.lemmas.Option.{none-some}
use Rattle.net_types.specs.Cutting.{split_at_byte}
use Rattle.net_types.specs.FirstBadLine.{IsSpelled, Breaks, FirstBad}
use Rattle.net_types.specs.LineFormats.{LineLaws}
use Rattle.net_types.specs.LineReading.{run, StopsAt}
use Rattle.net_types.specs.Marks.{Lacks}
use Rattle.net_types.specs.TextLines.{Line, AreLines, ended, lines_text, Front, Whole, Unended, End, front_by, front_in}
use Rattle.net_types.proofs.LineSteps.{text_more}
use Rattle.net_types.proofs.ReadsLaws.{some_same, split_whole}
use Rattle.script_model.specs.ScriptTexts.{ScriptLines}
use Rattle.replay_text.specs.declared.faults.ScriptCause.{ScriptCause}
use Rattle.replay_text.specs.declared.faults.ScriptCause.TheVariants as causes
use Rattle.replay_text.specs.declared.faults.ScriptFault.{ScriptFault}
use Rattle.replay_text.specs.Places.{IsInPlace}
use Rattle.replay_text.specs.FirstFaults.{known_after, IsOutOfPlace, IsOutOfForm, IsBadFor, end_cause, Why, IsFault, FaultsAreOne}
use Rattle.replay_text.specs.LinesInOrder.{SpellsScript}
use Rattle.replay_text.specs.ReadLines.{SpellsRead, AfterLines, After}
use Rattle.script_lines.specs.ScriptContent.{HoldsLines, conf_lines}
use Rattle.replay_text.specs.LinesRead.{LinesRead}
use Rattle.replay_text.specs.NextWords.{may_come}
use Rattle.replay_text.specs.ScriptReading.{ScriptRead, step, given, known_cause, line_cause, cause_of}
use Rattle.script_lines.specs.Words.{Known, word_at, is_text}
use Rattle.replay_text.proofs.PlaceLaws.{in_place, place_comes}
use Rattle.replay_text.proofs.ReadScripts.{completes, takes, ends, whole, are}

true_false : {b : Bool} → b ≡ true → b ≡ false → ⊥
true_false yes_ no_ = let never : true ≡ false = sym yes_ ∙ no_ in cc

-- ---- the cause that a state tells is that of the text

known_is : (read : LinesRead) (lines : List Line) (line : Line) → AfterLines read lines → known_after lines line ≡ word_at line
known_is read lines line after = subst (λ ls. known_after ls line ≡ word_at line) (sym after.are) refl

-- a known word, by its place
known_bad : (read : LinesRead) (lines : List Line) (line : Line) → run step lines None ≡ Some (Some read) → AfterLines read lines → is_text line ≡ true
    → (known : Known) → word_at line ≡ Some known
    → (place : Bool) → may_come read known.0 ≡ place → IsBadFor lines line (cond place causes.Form causes.Order)
known_bad read lines line runs after text known word false place = record {
  known = known;
  text = text;
  begins = known_is read lines line after ∙ word;
  place = λ stands. true_false (place_comes read lines known.0 runs after stands) place;
}
known_bad read lines line runs after text known word true place = record {
  known = known;
  text = text;
  begins = known_is read lines line after ∙ word;
  place = in_place read lines known.0 after place;
}

word_bad : (read : LinesRead) (lines : List Line) (line : Line) → run step lines None ≡ Some (Some read) → AfterLines read lines → is_text line ≡ true
    → (o : Option Known) → word_at line ≡ o → IsBadFor lines line (known_cause read o)
word_bad read lines line runs after text None word = (text, known_is read lines line after ∙ word)
word_bad read lines line runs after text (Some known) word =
    known_bad read lines line runs after text known word (may_come read known.0) refl

line_bad : (state : Option LinesRead) (lines : List Line) (line : Line) → After state lines → is_text line ≡ true → IsBadFor lines line (line_cause state line)
line_bad None lines line after text = subst (λ ls. IsBadFor ls line causes.Word) (sym after.read) (text, refl)
line_bad (Some read) lines line after text = word_bad read lines line after.runs after.read text (word_at line) refl

text_bad : (state : Option LinesRead) (lines : List Line) (line : Line) → After state lines → (text : Bool) → is_text line ≡ text
    → IsBadFor lines line (cond text (line_cause state line) causes.NotText)
text_bad state lines line after true text = line_bad state lines line after text
text_bad state lines line after false text = text

tells : (state : Option LinesRead) (lines : List Line) (front : Front) → After state lines → StopsAt step given state front
    → Why lines front (cause_of state front)
tells state lines (Whole line) after stops = text_bad state lines line after (is_text line) refl
tells state lines (Unended rest) after stops = refl
tells None lines End after stops = subst (λ ls. causes.Word ≡ end_cause ls) (sym after.read) refl
tells (Some read) lines End after stops = let before = after.read in subst (λ ls. causes.Order ≡ end_cause ls) (sym before.are) refl

pub script_laws : LineLaws SpellsRead Why step given cause_of After None
script_laws = record {
  begins = record { runs = refl; read = refl };
  takes = λ state next lines line after e. takes state next lines line after e;
  completes = completes;
  ends = ends;
  whole = whole;
  are = are;
  tells = tells;
}

-- ---- of scripts, without the bytes of their configuration

abbrev as_read : ScriptLines → ScriptRead
as_read script = record { conf = flat_map ended script.conf; script = script }

read_spells : (script : ScriptLines) (lines : List Line) → SpellsScript script lines → SpellsRead (as_read script) lines
read_spells script lines spells = record { spells = spells; conf = refl }

pub spelled_script : (text : List ℕ) (read : ScriptRead) → IsSpelled SpellsRead text read → IsSpelled SpellsScript text read.script
spelled_script text read is = record { lines = is.lines; spells = is.spells.spells; text_is = is.text_is }

pub held_lines : (text : List ℕ) (read : ScriptRead) → read.script.conf ≡ conf_lines read.conf → IsSpelled SpellsRead text read → HoldsLines read.conf
unfolding HoldsLines
held_lines text read same is = is.spells.conf ∙ ap (flat_map ended) same

breaks_for : (text : List ℕ) (lines : List Line) (front : Front) → Breaks SpellsRead text lines front → Breaks SpellsScript text lines front
breaks_for text lines (Whole line) none = λ script all spells more e. none (as_read script) all (read_spells script all spells) more e
breaks_for text lines (Unended rest) none = λ script all spells e. none (as_read script) all (read_spells script all spells) e
breaks_for text lines End none = λ script all spells e. none (as_read script) all (read_spells script all spells) e

pub script_fault : (text : List ℕ) (number : ℕ) (cause : ScriptCause) → FirstBad SpellsRead Why text number cause → FirstBad SpellsScript Why text number cause
script_fault text number cause at =
    let before = at.before in
    record {
      lines = at.lines;
      rest = at.rest;
      are = at.are;
      cut = at.cut;
      counted = at.counted;
      before = record { value = before.value.script; lines = before.lines; spells = before.spells.spells; more = before.more; goes_on = before.goes_on };
      breaks = breaks_for text at.lines (front_in at.rest) at.breaks;
      why = at.why;
    }

-- ---- one text, cut twice

record Further (short : List Line) (rest : List ℕ) (long : List Line) (tail : List ℕ) : Type 0 where
  line : Line
  more : List Line
  is : long ≡ short ++ line ∷ more
  behind : rest ≡ lines_text (line ∷ more) ++ tail
  free : Lacks 10 line

abbrev Parted : List Line → List ℕ → List Line → List ℕ → Type 0
Parted one rest other tail = ((one ≡ other) × (rest ≡ tail)) ⊎ (Further one rest other tail ⊎ Further other tail one rest)

-- a line in front of both
both_after : (line : Line) (one : List Line) (rest : List ℕ) (other : List Line) (tail : List ℕ) → Parted one rest other tail
    → Parted (line ∷ one) rest (line ∷ other) tail
both_after line one rest other tail (inl same) = inl (ap (λ ls. line ∷ ls) same.0, same.1)
both_after line one rest other tail (inr (inl f)) =
    inr (inl (record { line = f.line; more = f.more; is = ap (λ ls. line ∷ ls) f.is; behind = f.behind; free = f.free }))
both_after line one rest other tail (inr (inr f)) =
    inr (inr (record { line = f.line; more = f.more; is = ap (λ ls. line ∷ ls) f.is; behind = f.behind; free = f.free }))

first_line : (line : Line) (lines : List Line) (rest : List ℕ) → Lacks 10 line
    → split_at_byte 10 (lines_text (line ∷ lines) ++ rest) ≡ Some (line, lines_text lines ++ rest)
first_line line lines rest free =
    ap (split_at_byte 10) (append_assoc (ended line) (lines_text lines) rest ∙ append_assoc line (10 ∷ []) (lines_text lines ++ rest))
    ∙ split_whole 10 line (lines_text lines ++ rest) free

parted : (one : List Line) (rest : List ℕ) (other : List Line) (tail : List ℕ) → AreLines one → AreLines other
    → lines_text one ++ rest ≡ lines_text other ++ tail → Parted one rest other tail
parted [] rest [] tail are_one are_other e = inl (refl, e)
parted [] rest (line ∷ other) tail are_one are_other e = inr (inl (record { line = line; more = other; is = refl; behind = e; free = are_other.0 }))
parted (line ∷ one) rest [] tail are_one are_other e = inr (inr (record { line = line; more = one; is = refl; behind = sym e; free = are_one.0 }))
parted (line ∷ one) rest (same ∷ other) tail are_one are_other e =
    let both = some_same (sym (first_line line one rest are_one.0) ∙ ap (split_at_byte 10) e ∙ first_line same other tail are_other.0) in
    let lines : line ≡ same = ap (λ p. p.0) both in
    let later = parted one rest other tail are_one.1 are_other.1 (ap (λ p. p.1) both) in
    subst (λ l. Parted (line ∷ one) rest (l ∷ other) tail) lines (both_after line one rest other tail later)

front_line : (line : Line) (text : List ℕ) (rest : List ℕ) → text ≡ line ++ 10 ∷ rest → split_at_byte 10 text ≡ Some (line, rest) → front_in text ≡ Whole line
front_line line [] rest e split = absurd (nothing line rest e)
  where
    nothing : (line : Line) (rest : List ℕ) → [] ≡ line ++ 10 ∷ rest → ⊥
    nothing [] rest e = cc
    nothing (c ∷ cs) rest e = cc
front_line line (byte ∷ text) rest e split = ap (front_by (byte ∷ text)) split

-- a first bad line isn't among the lines before another one
further_never : (text : List ℕ) (a b : ScriptFault) (one : IsFault text a) (other : IsFault text b) → Further one.lines one.rest other.lines other.rest → ⊥
further_never text a b one other f =
    let front : front_in one.rest ≡ Whole f.line = front_line f.line one.rest (lines_text f.more ++ other.rest)
    (f.behind ∙ append_assoc (ended f.line) (lines_text f.more) other.rest ∙ append_assoc f.line (10 ∷ []) (lines_text f.more ++ other.rest))
    (ap (split_at_byte 10) f.behind ∙ first_line f.line f.more other.rest f.free) in
    let none = subst (Breaks SpellsScript text one.lines) front one.breaks in
    let begins = other.before in
    let longer : lines_text other.lines ≡ (lines_text one.lines ++ ended f.line) ++ lines_text f.more =
    ap lines_text f.is ∙ text_more one.lines (f.line ∷ f.more) ∙ sym (append_assoc (lines_text one.lines) (ended f.line) (lines_text f.more)) in
    none begins.value begins.lines begins.spells (lines_text f.more ++ begins.more)
    (begins.goes_on ∙ ap (λ t. t ++ begins.more) longer ∙ append_assoc (lines_text one.lines ++ ended f.line) (lines_text f.more) begins.more)

-- ---- a bad line has one cause

known_one : (lines : List Line) (line : Line) (a b : Known) → known_after lines line ≡ Some a → known_after lines line ≡ Some b → a ≡ b
known_one lines line a b one other = some_same (sym one ∙ other)

misplaced : (lines : List Line) (line : Line) → IsOutOfPlace lines line → IsOutOfForm lines line → ⊥
misplaced lines line out form =
    out.place (subst (λ (k : Known). IsInPlace lines k.0) (known_one lines line form.known out.known form.begins out.begins) form.place)

unknown : (lines : List Line) (line : Line) (known : Known) → known_after lines line ≡ None → known_after lines line ≡ Some known → ⊥
unknown lines line known none some = none-some known (sym none ∙ some)

cause_one : (lines : List Line) (line : Line) (a b : ScriptCause) → IsBadFor lines line a → IsBadFor lines line b → a ≡ b
cause_one lines line causes.NotText causes.NotText one other = refl
cause_one lines line causes.NotText causes.Word one other = absurd (true_false other.0 one)
cause_one lines line causes.NotText causes.Order one other = absurd (true_false other.text one)
cause_one lines line causes.NotText causes.Form one other = absurd (true_false other.text one)
cause_one lines line causes.Word causes.NotText one other = absurd (true_false one.0 other)
cause_one lines line causes.Word causes.Word one other = refl
cause_one lines line causes.Word causes.Order one other = absurd (unknown lines line other.known one.1 other.begins)
cause_one lines line causes.Word causes.Form one other = absurd (unknown lines line other.known one.1 other.begins)
cause_one lines line causes.Order causes.NotText one other = absurd (true_false one.text other)
cause_one lines line causes.Order causes.Word one other = absurd (unknown lines line one.known other.1 one.begins)
cause_one lines line causes.Order causes.Order one other = refl
cause_one lines line causes.Order causes.Form one other = absurd (misplaced lines line one other)
cause_one lines line causes.Form causes.NotText one other = absurd (true_false one.text other)
cause_one lines line causes.Form causes.Word one other = absurd (unknown lines line one.known other.1 one.begins)
cause_one lines line causes.Form causes.Order one other = absurd (misplaced lines line other one)
cause_one lines line causes.Form causes.Form one other = refl

why_one : (lines : List Line) (front : Front) (a b : ScriptCause) → Why lines front a → Why lines front b → a ≡ b
why_one lines (Whole line) a b one other = cause_one lines line a b one other
why_one lines (Unended rest) a b one other = one ∙ sym other
why_one lines End a b one other = one ∙ sym other

pub faults_are_one : FaultsAreOne
faults_are_one text a b one other =
    by (parted one.lines one.rest other.lines other.rest one.are other.are (sym one.cut ∙ other.cut))
  where
    by : Parted one.lines one.rest other.lines other.rest → a ≡ b
    by (inl same) =
        let line : a.line ≡ b.line = one.counted ∙ ap (λ (ls : List Line). length ls + 1) same.0 ∙ sym other.counted in
        let why : Why other.lines (front_in other.rest) a.cause =
        subst (λ r. Why other.lines (front_in r) a.cause) same.1 (subst (λ ls. Why ls (front_in one.rest) a.cause) same.0 one.why) in
        let cause : a.cause ≡ b.cause = why_one other.lines (front_in other.rest) a.cause b.cause why other.why in
        ap (λ n. record { line = n; cause = a.cause }) line ∙ ap (λ c. record { line = b.line; cause = c }) cause
    by (inr (inl f)) = absurd (further_never text a b one other f)
    by (inr (inr f)) = absurd (further_never text b a other one f)

-- ---- a text is one script's

no_line : split_at_byte 10 [] ≡ None
unfolding split_at_byte
no_line = refl

no_further : (one other : List Line) → Further one [] other [] → ⊥
no_further one other f = none-some (f.line, lines_text f.more ++ []) (sym no_line ∙ ap (split_at_byte 10) f.behind ∙ first_line f.line f.more [] f.free)

run_same : (lines : List Line) (a b : ScriptRead) → SpellsRead a lines → SpellsRead b lines → a ≡ b
run_same lines a b one other =
    let first = whole a lines one in
    let second = whole b lines other in
    some_same (sym first.gives ∙ ap given (some_same (sym first.runs ∙ second.runs)) ∙ second.gives)

pub scripts_are_one : (text : List ℕ) (one other : ScriptLines) → IsSpelled SpellsScript text one → IsSpelled SpellsScript text other → one ≡ other
scripts_are_one text one other a b =
    by
    (parted a.lines [] b.lines [] (are (as_read one) a.lines (read_spells one a.lines a.spells))
    (are (as_read other) b.lines (read_spells other b.lines b.spells)) (ap (λ t. t ++ []) (sym a.text_is ∙ b.text_is)))
  where
    by : Parted a.lines [] b.lines [] → one ≡ other
    by (inl same) =
        let spells : SpellsRead (as_read one) b.lines = subst (SpellsRead (as_read one)) same.0 (read_spells one a.lines a.spells) in
        ap (λ (r : ScriptRead). r.script) (run_same b.lines (as_read one) (as_read other) spells (read_spells other b.lines b.spells))
    by (inr (inl f)) = absurd (no_further a.lines b.lines f)
    by (inr (inr f)) = absurd (no_further b.lines a.lines f)
