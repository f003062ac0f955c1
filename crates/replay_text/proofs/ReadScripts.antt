-- The lines that were read can be brought to a script, and are those of one.
use Rattle.std.proofs.Common.{◌≡◌, ℕ, ◌≤◌, Bool, true, false, not, cond, eqb, List, [], ◌∷◌, ◌++◌, length, Option, Some, None, option_and_then, refl, sym, ap, ◌∙◌, subst, arith, codes, append-nil, bytes_eq}
use Rattle.std.specs.Prelude.{is_some, IsTrue}
use Rattle.std.specs.List.{AllByRecursion, AllPairs, list_all}
use Rattle.std.proofs.Math.Pow.{pow_mono}
use Rattle.std.proofs.lemmas.List.{length-append}
use Rattle.std.proofs.lemmas.List.Elements.{All-from_recursion}
use Rattle.std.proofs.lemmas.Option.{none-some}
use Rattle.std.proofs.lemmas.Slice.Eq.{bytes_eq-Decides}
use Rattle.net_types.specs.Cutting.{strip_word}
use Rattle.net_types.specs.LineFormats.{Completes, WholeRun}
use Rattle.net_types.specs.LineReading.{run}
use Rattle.net_types.specs.Marks.{Lacks, is_printable}
use Rattle.net_types.specs.TextLines.{Line, AreLines}
use Rattle.net_types.proofs.AllLaws.{all_join, all_map}
use Rattle.net_types.proofs.LineSteps.{run_more}
use Rattle.net_types.proofs.ReadsLaws.{some_same, mapped}
use Rattle.world.specs.declared.wakes.Begin.{Begin}
use Rattle.world.specs.Rows.{IsRow}
use Rattle.script_model.specs.FailingCalls.{FitsFail}
use Rattle.script_model.specs.FirstFiles.{FitsFile, UnlikeNames}
use Rattle.script_model.specs.HookAnswers.{FitsAnswer}
use Rattle.script_model.specs.Scripts.{Unlike, FitsLife, CrashBetween}
use Rattle.script_model.specs.ScriptTexts.{ScriptLines, LifeScript}
use Rattle.script_lines.specs.declared.words.Word.TheVariants.{Start}
use Rattle.replay_text.specs.LinesInOrder.{head_line}
use Rattle.replay_text.specs.ReadLines.{SpellsRead, HasPassed, FitsLast, AfterLines, IsAfter, After}
use Rattle.script_lines.specs.ScriptContent.{conf_lines}
use Rattle.replay_text.specs.LinesRead.{LifeRead, LinesRead, last_life, lives_in, nothing_read}
use Rattle.replay_text.specs.NextWords.{may_begin}
use Rattle.replay_text.specs.NextLines.{with_start}
use Rattle.replay_text.specs.ScriptReading.{ScriptRead, script_read, step_after, step, given}
use Rattle.script_lines.specs.Words.{word_text, is_text}
use Rattle.script_lines.proofs.CarrierLaws.{begin_words, FitsBegin}
use Rattle.script_lines.proofs.Grown.{pairs_none, pairs_more}
use Rattle.script_lines.proofs.Printables.{no_feed_in}
use Rattle.replay_text.proofs.TakenLines.{taken, taken_is, start_grows}
use Rattle.replay_text.proofs.WholeScripts.{whole_of}

-- ---- lines that are taken are lines

text_free : (b : Bool) (line : Line) → cond b (list_all (λ c. not (eqb c 10)) line) (list_all is_printable line) ≡ true → Lacks 10 line
text_free true line e = e
text_free false line e = no_feed_in line e

taken_free : (line : Line) → is_text line ≡ true → Lacks 10 line
unfolding is_text
taken_free line e = text_free (is_some (strip_word (codes "c:") line)) line e

head_is : (line : Line) (next : Option LinesRead) (b : Bool) → bytes_eq line head_line ≡ b → cond b (Some (Some nothing_read)) None ≡ Some next
    → (line ≡ head_line) × (next ≡ Some nothing_read)
head_is line next true t e = ((bytes_eq-Decides line head_line).0 t, sym (some_same e))
head_is line next false t e = absurd (none-some next e)

step_free : (state next : Option LinesRead) (line : Line) → step state line ≡ Some next → Lacks 10 line
step_free None next line e = subst (Lacks 10) (sym (head_is line next (bytes_eq line head_line) refl e).0) refl
step_free (Some read) next line e =
    let m = mapped Some (step_after read line) next e in
    let is = taken_is read line m.value m.was in
    taken_free line is.text

pub run_lines : (lines : List Line) (state end : Option LinesRead) → run step lines state ≡ Some end → AreLines lines
run_lines [] state end e = tt
run_lines (line ∷ lines) state end e = by (run_lines lines) (step state line) refl e
  where
    by : ((s t : Option LinesRead) → run step lines s ≡ Some t → AreLines lines) → (o : Option (Option LinesRead)) → step state line ≡ o
        → option_and_then (run step lines) o ≡ Some end → AreLines (line ∷ lines)
    by others None is q = absurd (none-some end q)
    by others (Some next) is q = (step_free state next line is, others next end q)

-- ---- a script that may end

pairs_of : {X : Type 0} (P : X → Type 0) (xs : List X) → AllByRecursion P xs → AllPairs (λ x y. P x) xs
pairs_of P xs all = λ i j d below within. (All-from_recursion P xs all) i d (omega arith)

abbrev Crashes : LifeScript → Type 0
Crashes life = IsTrue (is_some life.crash)

parted : (count : ℕ) (past : List LifeScript) (life : LifeScript) → AllByRecursion (HasPassed count) past → CrashBetween (past ++ life ∷ [])
parted count past life passed =
    let crashes = all_map (HasPassed count) Crashes (λ one h. h.1) past passed in
    pairs_more (λ one later. Crashes one) past life (pairs_of Crashes past crashes) crashes

lives_fit : (count : ℕ) (past : List LifeScript) (life : LifeScript) → AllByRecursion (HasPassed count) past → FitsLife count life
    → AllByRecursion (FitsLife count) (past ++ life ∷ [])
lives_fit count past life passed fits =
    all_join (FitsLife count) past (life ∷ []) (all_map (HasPassed count) (FitsLife count) (λ one h. h.0) past passed) (fits, tt)

record FitLives (count : ℕ) (lives : List LifeScript) : Type 0 where
  some : 1 ≤ length lives
  between : CrashBetween lives
  each : AllByRecursion (FitsLife count) lives

fit_lives : (count : ℕ) (past : List LifeScript) (last : Option LifeRead) → AllByRecursion (HasPassed count) past → FitsLast count past last
    → is_some last ≡ true → FitLives count (past ++ last_life last)
fit_lives count past None passed fits some = cc
fit_lives count past (Some read) passed fits some = record {
  some = omega (arith, length-append past (read.life ∷ []));
  between = parted count past read.life passed;
  each = lives_fit count past read.life passed fits.0;
}

pub ends_here : (read : LinesRead) (lines : List Line) → AfterLines read lines → is_some read.last ≡ true → SpellsRead (script_read read) lines
ends_here read lines after some =
    let sound = after.sound in
    let count = length read.ifaces in
    let lives = fit_lives count read.past read.last sound.past sound.last some in
    record {
      spells = record {
        rows = after.rows;
        spelled = after.spelled;
        lives = after.lives;
        lived = after.lived;
        are = after.are;
        fits = record {
          conf = All-from_recursion (Lacks 10) (conf_lines read.conf) sound.conf;
          ifaces = sound.ifaces;
          rows = All-from_recursion IsRow read.rows sound.rows;
          once = sound.once;
          files = All-from_recursion FitsFile read.files sound.files;
          unlike = sound.unlike;
          fails = All-from_recursion FitsFail read.fails sound.fails;
          polls = All-from_recursion FitsAnswer read.polls sound.polls;
          some = lives.some;
          parted = lives.between;
          lives = All-from_recursion (FitsLife count) (lives_in read) lives.each;
        };
      };
      conf = sound.holds;
    }

-- ---- lines after which a script may end

abbrev pub first_begin : Begin
first_begin = record { at = 0; salt = 0; up = 0 }

pub first_fits : (count : ℕ) → FitsBegin count first_begin
first_fits count = record { at = omega arith; salt = omega arith; up = omega (arith, pow_mono {i = 0} {j = count} (omega arith)) }

abbrev first_start : Line
first_start = word_text Start ++ 32 ∷ begin_words first_begin

pub completed : (read : LinesRead) (lines : List Line) → AfterLines read lines → Completes SpellsRead lines
completed read lines after = by read.last refl
  where
    by : (last : Option LifeRead) → read.last ≡ last → Completes SpellsRead lines
    by (Some life) is =
        record {
          value = script_read read;
          more = [];
          spells = subst (SpellsRead (script_read read)) (sym (append-nil lines)) (ends_here read lines after (ap is_some is));
        }
    by None is =
        let begun = start_grows read lines first_begin after (ap may_begin is) (first_fits (length read.ifaces)) in
        record {
          value = script_read (with_start read first_begin);
          more = first_start ∷ [];
          spells = ends_here (with_start read first_begin) (lines ++ first_start ∷ []) begun refl;
        }

nothing_fits : AfterLines nothing_read (head_line ∷ [])
unfolding conf_lines
nothing_fits = record {
  rows = [];
  spelled = tt;
  lives = [];
  lived = tt;
  are = refl;
  sound = record {
    conf = tt;
    holds = refl;
    ifaces = record { few = omega arith; counted = tt; unlike = pairs_none Unlike };
    rows = tt;
    once = refl;
    files = tt;
    unlike = pairs_none UnlikeNames;
    fails = tt;
    polls = tt;
    past = tt;
    last = refl;
  };
}

pub completes : (state : Option LinesRead) (lines : List Line) → After state lines → Completes SpellsRead lines
completes None lines after =
    let c = completed nothing_read (head_line ∷ []) nothing_fits in
    record { value = c.value; more = head_line ∷ c.more; spells = subst (λ ls. SpellsRead c.value (ls ++ head_line ∷ c.more)) (sym after.read) c.spells }
completes (Some read) lines after = completed read lines after.read

-- ---- one line more, and the end

pub takes : (state next : Option LinesRead) (lines : List Line) (line : Line) → After state lines → step state line ≡ Some next
    → After next (lines ++ line ∷ [])
takes state next lines line after e = record {
  runs = run_more step lines (line ∷ []) None state after.runs ∙ ap (option_and_then (run step [])) e;
  read = by state after.read e;
}
  where
    by : (s : Option LinesRead) → IsAfter s lines → step s line ≡ Some next → IsAfter next (lines ++ line ∷ [])
    by None none q =
        let is = head_is line next (bytes_eq line head_line) refl q in
        subst (λ n. IsAfter n (lines ++ line ∷ [])) (sym is.1)
        (subst (λ ls. AfterLines nothing_read (ls ++ line ∷ [])) (sym none) (subst (λ l. AfterLines nothing_read (l ∷ [])) (sym is.0) nothing_fits))
    by (Some read) before q =
        let m = mapped Some (step_after read line) next q in
        subst (λ n. IsAfter n (lines ++ line ∷ [])) m.gives (taken read lines line m.value before m.was)

pub ends : (state : Option LinesRead) (lines : List Line) (value : ScriptRead) → After state lines → given state ≡ Some value → SpellsRead value lines
ends None lines value after e = absurd (none-some value e)
ends (Some read) lines value after e = by (is_some read.last) refl e
  where
    by : (b : Bool) → is_some read.last ≡ b → cond b (Some (script_read read)) None ≡ Some value → SpellsRead value lines
    by true t q = subst (λ v. SpellsRead v lines) (some_same q) (ends_here read lines after.read t)
    by false t q = absurd (none-some value q)

-- ---- whole scripts

pub whole : (value : ScriptRead) (lines : List Line) → SpellsRead value lines → WholeRun step given None lines value
whole value lines spells =
    let s = spells.spells in
    let w = whole_of s.rows s.lives value.script s.spelled s.lived s.fits in
    record {
      state = Some w.read;
      runs = ap (λ ls. run step ls None) s.are ∙ w.runs;
      gives =
          ap (λ b. cond b (Some (script_read w.read)) None) w.some ∙ ap (λ (sc : ScriptLines). Some (record { conf = w.read.conf; script = sc })) w.is
          ∙ ap (λ c. Some (record { conf = c; script = value.script })) (w.conf ∙ sym spells.conf);
    }

pub are : (value : ScriptRead) (lines : List Line) → SpellsRead value lines → AreLines lines
are value lines spells = let w = whole value lines spells in run_lines lines None w.state w.runs
