-- A line that is taken is one more of a script.
use Rattle.std.proofs.Common.{◌≡◌, ℕ, Bool, true, false, not, cond, List, [], ◌∷◌, ◌++◌, map, flat_map, length, Option, Some, None, option_map, option_and_then, refl, sym, ap, ◌∙◌, subst, arith, codes, append-nil}
use Rattle.std.specs.Prelude.{is_some}
use Rattle.std.specs.List.{AllByRecursion}
use Rattle.std.specs.Set.{is_member}
use Rattle.std.proofs.lemmas.Bool.{and_parts, and_from, not-true}
use Rattle.std.proofs.lemmas.Grind.{flat_map-append}
use Rattle.std.proofs.lemmas.List.Elements.{All-from_recursion}
use Rattle.std.proofs.lemmas.Option.{none-some}
use Rattle.net_types.specs.declared.interface.IfSpec.{IfSpec}
use Rattle.net_types.specs.Cutting.{strip_word, guarded}
use Rattle.net_types.specs.Marks.{Lacks}
use Rattle.net_types.specs.Reads.{Reads}
use Rattle.net_types.specs.TextLines.{Line, ended}
use Rattle.net_types.proofs.AllLaws.{all_join}
use Rattle.net_types.proofs.ReadsLaws.{some_same, passed, mapped, strip_sound, word_reads, guard_passed}
use Rattle.world.specs.declared.rows.HostRow.{HostRow}
use Rattle.world.specs.declared.hooking.Poll.{Poll}
use Rattle.world.specs.declared.wakes.Begin.{Begin}
use Rattle.world.specs.FileLists.{StoreFile, file_name}
use Rattle.world.specs.FileNames.{is_name}
use Rattle.world.specs.LinkCalls.{Given}
use Rattle.world.specs.RowOrder.{has_row}
use Rattle.world.specs.Rows.{IsRow}
use Rattle.script_model.specs.declared.failing.FailLine.{FailLine}
use Rattle.script_model.specs.Crashes.{CrashScript, FitsCrash, crash_text}
use Rattle.script_model.specs.FailingCalls.{FitsFail, fail_text}
use Rattle.script_model.specs.FirstFiles.{FitsFile, UnlikeNames, file_text}
use Rattle.script_model.specs.HookAnswers.{FitsAnswer, hook_text}
use Rattle.script_model.specs.Lines.{interface_text, poll_text, start_text}
use Rattle.script_model.specs.RowSpellings.{SpellsRow}
use Rattle.script_model.specs.Scripts.{FitsGiven, FitsLife}
use Rattle.script_model.specs.ScriptTexts.{LifeScript}
use Rattle.script_model.specs.Spellings.{AreSpelled}
use Rattle.script_model.specs.TurnSpellings.{SpellsGiven}
use Rattle.iface_lists.proofs.UnlikeLaws.{by_recursion}
use Rattle.script_lines.specs.declared.words.Word.{Word}
use Rattle.script_lines.specs.declared.words.Word.TheVariants.{Head, Conf, Interface, Row, File, Fail, Hook, Start, Turn, Crash}
use Rattle.script_lines.specs.Clocks.{clock_at, clock_after, clock_through, is_over, is_in_time}
use Rattle.script_lines.specs.KindTests.{is_listed}
use Rattle.replay_text.specs.LinesInOrder.{head_line, conf_line, row_line, crash_lines, SpellsLife, lives_lines, script_lines}
use Rattle.replay_text.specs.ReadLines.{HasPassed, FitsLast, IsSound, AfterLines}
use Rattle.script_lines.specs.ScriptContent.{conf_lines}
use Rattle.replay_text.specs.LinesRead.{LifeRead, LinesRead, last_life, lives_in, script_in}
use Rattle.replay_text.specs.NextWords.{none_of, before_lives, before_polls, before_fails, before_files, before_rows, before_interfaces, may_begin, has_begun, is_going_on, may_come}
use Rattle.replay_text.specs.NextLines.{after_blank, fits_next, is_new_row, is_new_file, begun, with_turn, with_crash, with_start, with_last, with_line}
use Rattle.replay_text.specs.ScriptReading.{in_place, step_after}
use Rattle.script_lines.specs.Words.{Known, word_text, word_at, is_text}
use Rattle.script_lines.proofs.CarrierLaws.{begin_words, FitsBegin, begin_reads, begin_spelled}
use Rattle.script_lines.proofs.ClockLaws.{in_time_sound, in_time_whole}
use Rattle.script_lines.proofs.CrashLaws.{crash_words, crash_reads, crash_spelled}
use Rattle.script_lines.proofs.FileLaws.{file_words, file_reads, file_spelled, new_unlike}
use Rattle.script_lines.proofs.Grown.{pairs_more, line_more, behind, spelled_more, none_spelled, once_more}
use Rattle.script_lines.proofs.LineLaws.{spec_text, FitsSpec, spec_reads, spec_spelled, fail_words, fail_reads, fail_spelled, SpellsTurn, turn_finds, turn_line}
use Rattle.script_lines.proofs.PollLaws.{poll_reads}
use Rattle.row_texts.proofs.RowLaws.{row_finds}
use Rattle.row_texts.proofs.SpellingLaws.{Finds}
use Rattle.script_lines.proofs.ConfLineLaws.{conf_lines_of}
use Rattle.script_lines.proofs.TestLaws.{interfaces_sound, interfaces_whole, listed_sound}
use Rattle.script_lines.proofs.WordLaws.{word_is}

-- ---- what a line that is taken is

pub record IsTaken (read : LinesRead) (line : Line) (next : LinesRead) : Type 0 where
  pub known : Known
  pub text : is_text line ≡ true
  pub word : word_at line ≡ Some known
  pub comes : may_come read known.0 ≡ true
  pub grown : with_line read known.0 known.1 ≡ Some next

pub cond_is : {X : Type 0} (b : Bool) (o : Option X) (x : X) → cond b o None ≡ Some x → (b ≡ true) × (o ≡ Some x)
cond_is true o x e = (refl, e)
cond_is false o x e = absurd (none-some x e)

pub taken_is : (read : LinesRead) (line : Line) (next : LinesRead) → step_after read line ≡ Some next → IsTaken read line next
unfolding step_after
taken_is read line next e =
    let text = cond_is (is_text line) (option_and_then (in_place read) (word_at line)) next e in
    let known = passed (word_at line) (in_place read) next text.1 in
    let come = cond_is (may_come read known.value.0) (with_line read known.value.0 known.value.1) next known.gives in
    record { known = known.value; text = text.0; word = known.was; comes = come.0; grown = come.1 }

-- ---- what stands behind the lines of a kind

none_is : {X : Type 0} (xs : List X) → none_of xs ≡ true → xs ≡ []
none_is [] e = refl
none_is (x ∷ xs) e = cc

no_last : (last : Option LifeRead) → not (is_some last) ≡ true → last ≡ None
no_last None e = refl
no_last (Some read) e = cc

no_past : (read : LinesRead) → IsSound read → before_lives read ≡ true → read.past ≡ []
no_past read sound e = subst (FitsLast (length read.ifaces) read.past) (no_last read.last e) sound.last

pub no_lives : (read : LinesRead) → IsSound read → before_lives read ≡ true → lives_in read ≡ []
no_lives read sound e = ap (λ p. p ++ last_life read.last) (no_past read sound e) ∙ ap last_life (no_last read.last e)

abbrev behind_fails : List (List Line) → LinesRead → List Line
behind_fails lives read = map hook_text read.polls ++ lives_lines lives

abbrev behind_files : List (List Line) → LinesRead → List Line
behind_files lives read = map fail_text read.fails ++ behind_fails lives read

abbrev behind_rows : List (List Line) → LinesRead → List Line
behind_rows lives read = map file_text read.files ++ behind_files lives read

abbrev behind_ifaces : List (List ℕ) → List (List Line) → LinesRead → List Line
behind_ifaces rows lives read = map row_line rows ++ behind_rows lives read

abbrev behind_conf : List (List ℕ) → List (List Line) → LinesRead → List Line
behind_conf rows lives read = map interface_text read.ifaces ++ behind_ifaces rows lives read

abbrev AreLives : List (List Line) → LinesRead → Type 0
AreLives lives read = AreSpelled SpellsLife lives (lives_in read)

none_behind_polls : (lives : List (List Line)) (read : LinesRead) → IsSound read → AreLives lives read → before_lives read ≡ true → lives_lines lives ≡ []
none_behind_polls lives read sound lived e =
    ap lives_lines (none_spelled SpellsLife lives (subst (AreSpelled SpellsLife lives) (no_lives read sound e) lived))

none_behind_fails : (lives : List (List Line)) (read : LinesRead) → IsSound read → AreLives lives read → before_polls read ≡ true → behind_fails lives read ≡ []
none_behind_fails lives read sound lived e =
    let parts = and_parts (none_of read.polls) (before_lives read) e in
    ap (λ ps. map hook_text ps ++ lives_lines lives) (none_is read.polls parts.0) ∙ none_behind_polls lives read sound lived parts.1

none_behind_files : (lives : List (List Line)) (read : LinesRead) → IsSound read → AreLives lives read → before_fails read ≡ true → behind_files lives read ≡ []
none_behind_files lives read sound lived e =
    let parts = and_parts (none_of read.fails) (before_polls read) e in
    ap (λ fs. map fail_text fs ++ behind_fails lives read) (none_is read.fails parts.0) ∙ none_behind_fails lives read sound lived parts.1

none_behind_rows : (lives : List (List Line)) (read : LinesRead) → IsSound read → AreLives lives read → before_files read ≡ true → behind_rows lives read ≡ []
none_behind_rows lives read sound lived e =
    let parts = and_parts (none_of read.files) (before_fails read) e in
    ap (λ fs. map file_text fs ++ behind_files lives read) (none_is read.files parts.0) ∙ none_behind_files lives read sound lived parts.1

none_behind_ifaces : (rows : List (List ℕ)) (lives : List (List Line)) (read : LinesRead) → IsSound read → AreSpelled SpellsRow rows read.rows
    → AreLives lives read → before_rows read ≡ true → behind_ifaces rows lives read ≡ []
none_behind_ifaces rows lives read sound spelled lived e =
    let parts = and_parts (none_of read.rows) (before_files read) e in
    ap (λ rs. map row_line rs ++ behind_rows lives read) (none_spelled SpellsRow rows (subst (AreSpelled SpellsRow rows) (none_is read.rows parts.0) spelled))
    ∙ none_behind_rows lives read sound lived parts.1

none_behind_conf : (rows : List (List ℕ)) (lives : List (List Line)) (read : LinesRead) → IsSound read → AreSpelled SpellsRow rows read.rows
    → AreLives lives read → before_interfaces read ≡ true → behind_conf rows lives read ≡ []
none_behind_conf rows lives read sound spelled lived e =
    let parts = and_parts (none_of read.ifaces) (before_rows read) e in
    ap (λ is. map interface_text is ++ behind_ifaces rows lives read) (none_is read.ifaces parts.0)
    ∙ none_behind_ifaces rows lives read sound spelled lived parts.1

-- nothing stands behind interfaces, so that their number may change
lives_of_none : (read : LinesRead) → IsSound read → before_rows read ≡ true → before_lives read ≡ true
lives_of_none read sound e =
    let files = and_parts (none_of read.rows) (before_files read) e in
    let fails = and_parts (none_of read.files) (before_fails read) files.1 in
    let polls = and_parts (none_of read.fails) (before_polls read) fails.1 in
    (and_parts (none_of read.polls) (before_lives read) polls.1).1

-- ---- lines by a word and what is read after it

one_more : (lines old new : List Line) (line same : Line) → lines ≡ old → line ≡ same → old ++ same ∷ [] ≡ new → lines ++ line ∷ [] ≡ new
one_more lines old new line same are is more = ap (λ ls. ls ++ line ∷ []) are ∙ ap (λ l. old ++ l ∷ []) is ∙ more

abbrev Grows : List Line → Line → LinesRead → Type 0
Grows lines line next = AfterLines next (lines ++ line ∷ [])

word_grows : {X : Type 0} {text_of : X → List ℕ} {Fits : X → Type 0} {found : List ℕ → Option X} (lines : List Line) (word : Word) (rest : List ℕ)
    (next : LinesRead) (make : X → LinesRead)
    → Reads text_of Fits found
    → ((x : X) → Fits x → Grows lines (word_text word ++ 32 ∷ text_of x) (make x)) → option_map make (after_blank found rest) ≡ Some next
    → Grows lines (word_text word ++ rest) next
word_grows {found = found} lines word rest next make law grows e =
    let m = mapped make (after_blank found rest) next e in
    let r = (word_reads (codes " ") law).sound rest m.value m.was in
    subst (Grows lines (word_text word ++ rest)) m.gives (subst (λ t. Grows lines (word_text word ++ t) (make m.value)) (sym r.0) (grows m.value r.1))

tested_grows : {X : Type 0} {text_of : X → List ℕ} {Fits : X → Type 0} {found : List ℕ → Option X} (lines : List Line) (word : Word) (rest : List ℕ)
    (next : LinesRead) (test : X → Bool) (make : X → LinesRead)
    → Reads text_of Fits found
    → ((x : X) → Fits x → test x ≡ true → Grows lines (word_text word ++ 32 ∷ text_of x) (make x))
    → option_map make (guarded test (after_blank found rest)) ≡ Some next → Grows lines (word_text word ++ rest) next
tested_grows {found = found} lines word rest next test make law grows e =
    let m = mapped make (guarded test (after_blank found rest)) next e in
    let g = guard_passed test (after_blank found rest) m.value m.was in
    let r = (word_reads (codes " ") law).sound rest m.value g.0 in
    subst (Grows lines (word_text word ++ rest)) m.gives (subst (λ t. Grows lines (word_text word ++ t) (make m.value)) (sym r.0) (grows m.value r.1 g.1))

found_grows : {X : Type 0} {Spells : List ℕ → X → Type 0} {found : List ℕ → Option X} (lines : List Line) (word : Word) (rest : List ℕ) (next : LinesRead)
    (test : X → Bool) (make : X → LinesRead)
    → Finds Spells found
    → ((text : List ℕ) (x : X) → Spells text x → test x ≡ true → Grows lines (word_text word ++ 32 ∷ text) (make x))
    → option_map make (guarded test (after_blank found rest)) ≡ Some next → Grows lines (word_text word ++ rest) next
found_grows {found = found} lines word rest next test make law grows e =
    let m = mapped make (guarded test (after_blank found rest)) next e in
    let g = guard_passed test (after_blank found rest) m.value m.was in
    let p = passed (strip_word (codes " ") rest) found m.value g.0 in
    let spelled : rest ≡ codes " " ++ p.value = strip_sound (codes " ") rest p.value p.was in
    subst (Grows lines (word_text word ++ rest)) m.gives
    (subst (λ t. Grows lines (word_text word ++ t) (make m.value)) (sym spelled) (grows p.value m.value (law.sound p.value m.value p.gives) g.1))

-- ---- the configuration

pub lines_ended : (lines : List (List ℕ)) (line : List ℕ) → flat_map ended (lines ++ line ∷ []) ≡ flat_map ended lines ++ ended line
lines_ended lines line = flat_map-append ended lines (line ∷ []) ∙ ap (λ t. flat_map ended lines ++ t) (append-nil (ended line))

conf_free : (text : List ℕ) → is_text (codes "c:" ++ text) ≡ true → Lacks 10 text
unfolding is_text strip_word
conf_free text e = e

conf_grows : (read : LinesRead) (lines : List Line) (text : List ℕ) (next : LinesRead) → AfterLines read lines → is_text (word_text Conf ++ text) ≡ true
    → before_interfaces read ≡ true
    → Some (record read { conf = read.conf ++ ended text }) ≡ Some next → Grows lines (word_text Conf ++ text) next
conf_grows read lines text next after is comes e =
    let sound = after.sound in
    let free = all_join (Lacks 10) (conf_lines read.conf) (text ∷ []) sound.conf (conf_free text is, tt) in
    let joined : read.conf ++ ended text ≡ flat_map ended (conf_lines read.conf ++ text ∷ []) =
    ap (λ c. c ++ ended text) sound.holds ∙ sym (lines_ended (conf_lines read.conf) text) in
    let grown : conf_lines (read.conf ++ ended text) ≡ conf_lines read.conf ++ text ∷ [] =
    ap conf_lines joined ∙ conf_lines_of (conf_lines read.conf ++ text ∷ []) free in
    let rest = behind_conf after.rows after.lives read in
    subst (Grows lines (word_text Conf ++ text)) (some_same e) (record {
      rows = after.rows;
      spelled = after.spelled;
      lives = after.lives;
      lived = after.lived;
      are = one_more lines (script_lines after.rows after.lives (script_in read)) _ (conf_line text) (conf_line text) after.are refl
          (ap (λ ls. head_line ∷ ls)
          (line_more conf_line (conf_lines read.conf) text rest (none_behind_conf after.rows after.lives read sound after.spelled after.lived comes)
          ∙ ap (λ ts. map conf_line ts ++ rest) (sym grown)));
      sound = record {
        conf = subst (AllByRecursion (Lacks 10)) (sym grown) free;
        holds = joined ∙ ap (flat_map ended) (sym grown);
        ifaces = sound.ifaces;
        rows = sound.rows;
        once = sound.once;
        files = sound.files;
        unlike = sound.unlike;
        fails = sound.fails;
        polls = sound.polls;
        past = sound.past;
        last = sound.last;
      };
    })

-- ---- interfaces, rows, files, calls that fail and answers of hooks

iface_grows : (read : LinesRead) (lines : List Line) (spec : IfSpec) → AfterLines read lines → before_rows read ≡ true → FitsSpec spec
    → fits_next read.ifaces spec ≡ true
    → Grows lines (word_text Interface ++ 32 ∷ spec_text spec) (record read { ifaces = read.ifaces ++ spec ∷ [] })
iface_grows read lines spec after comes fits test =
    let sound = after.sound in
    let lives = lives_of_none read sound comes in
    let ifaces = interfaces_whole read.ifaces sound.ifaces in
    let count = length (read.ifaces ++ spec ∷ []) in
    let rest = behind_ifaces after.rows after.lives read in
    record {
      rows = after.rows;
      spelled = after.spelled;
      lives = after.lives;
      lived = after.lived;
      are = one_more lines (script_lines after.rows after.lives (script_in read)) _ _ (interface_text spec) after.are (sym (spec_spelled spec))
          (ap (λ ls. head_line ∷ ls) (behind (map conf_line (conf_lines read.conf)) (behind_conf after.rows after.lives read) _ (interface_text spec)
          (line_more interface_text read.ifaces spec rest (none_behind_ifaces after.rows after.lives read sound after.spelled after.lived comes))));
      sound = record {
        conf = sound.conf;
        holds = sound.holds;
        ifaces = interfaces_sound (read.ifaces ++ spec ∷ []) (record { each = all_join FitsSpec read.ifaces (spec ∷ []) ifaces.each (fits, tt); test = test });
        rows = sound.rows;
        once = sound.once;
        files = sound.files;
        unlike = sound.unlike;
        fails = sound.fails;
        polls = sound.polls;
        past = subst (AllByRecursion (HasPassed count)) (sym (no_past read sound lives)) tt;
        last = subst (FitsLast count read.past) (sym (no_last read.last lives)) (no_past read sound lives);
      };
    }

row_grows : (read : LinesRead) (lines : List Line) (text : List ℕ) (row : HostRow) → AfterLines read lines → before_files read ≡ true → SpellsRow text row
    → IsRow row → is_new_row read.rows row ≡ true
    → Grows lines (row_line text) (record read { rows = read.rows ++ row ∷ [] })
row_grows read lines text row after comes spells fits test =
    let sound = after.sound in
    let rest = behind_rows after.lives read in
    record {
      rows = after.rows ++ text ∷ [];
      spelled = spelled_more SpellsRow after.rows read.rows text row after.spelled spells;
      lives = after.lives;
      lived = after.lived;
      are = one_more lines (script_lines after.rows after.lives (script_in read)) _ (row_line text) (row_line text) after.are refl
          (ap (λ ls. head_line ∷ ls) (behind (map conf_line (conf_lines read.conf)) (behind_conf after.rows after.lives read) _ (row_line text)
          (behind (map interface_text read.ifaces) (behind_ifaces after.rows after.lives read) _ (row_line text)
          (line_more row_line after.rows text rest (none_behind_rows after.lives read sound after.lived comes)))));
      sound = record {
        conf = sound.conf;
        holds = sound.holds;
        ifaces = sound.ifaces;
        rows = all_join IsRow read.rows (row ∷ []) sound.rows (fits, tt);
        once = once_more read.rows row sound.once (not-true (has_row read.rows row) test);
        files = sound.files;
        unlike = sound.unlike;
        fails = sound.fails;
        polls = sound.polls;
        past = sound.past;
        last = sound.last;
      };
    }

file_grows : (read : LinesRead) (lines : List Line) (file : StoreFile) → AfterLines read lines → before_fails read ≡ true → FitsFile file
    → is_new_file read.files file ≡ true
    → Grows lines (word_text File ++ 32 ∷ file_words file) (record read { files = read.files ++ file ∷ [] })
file_grows read lines file after comes fits test =
    let sound = after.sound in
    let rest = behind_files after.lives read in
    record {
      rows = after.rows;
      spelled = after.spelled;
      lives = after.lives;
      lived = after.lived;
      are = one_more lines (script_lines after.rows after.lives (script_in read)) _ _ (file_text file) after.are (sym (file_spelled file))
          (ap (λ ls. head_line ∷ ls) (behind (map conf_line (conf_lines read.conf)) (behind_conf after.rows after.lives read) _ (file_text file)
          (behind (map interface_text read.ifaces) (behind_ifaces after.rows after.lives read) _ (file_text file)
          (behind (map row_line after.rows) (behind_rows after.lives read) _ (file_text file)
          (line_more file_text read.files file rest (none_behind_files after.lives read sound after.lived comes))))));
      sound = record {
        conf = sound.conf;
        holds = sound.holds;
        ifaces = sound.ifaces;
        rows = sound.rows;
        once = sound.once;
        files = all_join FitsFile read.files (file ∷ []) sound.files (fits, tt);
        unlike =
            pairs_more UnlikeNames read.files file sound.unlike
            (new_unlike read.files file (not-true (is_member is_name (map file_name read.files) file.name) test));
        fails = sound.fails;
        polls = sound.polls;
        past = sound.past;
        last = sound.last;
      };
    }

fail_grows : (read : LinesRead) (lines : List Line) (fail : FailLine) → AfterLines read lines → before_polls read ≡ true → FitsFail fail
    → Grows lines (word_text Fail ++ 32 ∷ fail_words fail) (record read { fails = read.fails ++ fail ∷ [] })
fail_grows read lines fail after comes fits =
    let sound = after.sound in
    let rest = behind_fails after.lives read in
    record {
      rows = after.rows;
      spelled = after.spelled;
      lives = after.lives;
      lived = after.lived;
      are = one_more lines (script_lines after.rows after.lives (script_in read)) _ _ (fail_text fail) after.are (sym (fail_spelled fail))
          (ap (λ ls. head_line ∷ ls) (behind (map conf_line (conf_lines read.conf)) (behind_conf after.rows after.lives read) _ (fail_text fail)
          (behind (map interface_text read.ifaces) (behind_ifaces after.rows after.lives read) _ (fail_text fail)
          (behind (map row_line after.rows) (behind_rows after.lives read) _ (fail_text fail)
          (behind (map file_text read.files) (behind_files after.lives read) _ (fail_text fail)
          (line_more fail_text read.fails fail rest (none_behind_fails after.lives read sound after.lived comes)))))));
      sound = record {
        conf = sound.conf;
        holds = sound.holds;
        ifaces = sound.ifaces;
        rows = sound.rows;
        once = sound.once;
        files = sound.files;
        unlike = sound.unlike;
        fails = all_join FitsFail read.fails (fail ∷ []) sound.fails (fits, tt);
        polls = sound.polls;
        past = sound.past;
        last = sound.last;
      };
    }

poll_grows : (read : LinesRead) (lines : List Line) (answer : Option Poll) → AfterLines read lines → before_lives read ≡ true → FitsAnswer answer
    → Grows lines (word_text Hook ++ 32 ∷ poll_text answer) (record read { polls = read.polls ++ answer ∷ [] })
poll_grows read lines answer after comes fits =
    let sound = after.sound in
    let rest = lives_lines after.lives in
    record {
      rows = after.rows;
      spelled = after.spelled;
      lives = after.lives;
      lived = after.lived;
      are = one_more lines (script_lines after.rows after.lives (script_in read)) _ (hook_text answer) (hook_text answer) after.are refl
          (ap (λ ls. head_line ∷ ls) (behind (map conf_line (conf_lines read.conf)) (behind_conf after.rows after.lives read) _ (hook_text answer)
          (behind (map interface_text read.ifaces) (behind_ifaces after.rows after.lives read) _ (hook_text answer)
          (behind (map row_line after.rows) (behind_rows after.lives read) _ (hook_text answer)
          (behind (map file_text read.files) (behind_files after.lives read) _ (hook_text answer)
          (behind (map fail_text read.fails) (behind_fails after.lives read) _ (hook_text answer)
          (line_more hook_text read.polls answer rest (none_behind_polls after.lives read sound after.lived comes))))))));
      sound = record {
        conf = sound.conf;
        holds = sound.holds;
        ifaces = sound.ifaces;
        rows = sound.rows;
        once = sound.once;
        files = sound.files;
        unlike = sound.unlike;
        fails = sound.fails;
        polls = all_join FitsAnswer read.polls (answer ∷ []) sound.polls (fits, tt);
        past = sound.past;
        last = sound.last;
      };
    }

-- ---- lives

-- a line more of the lives
lives_grow : (rows : List (List ℕ)) (lives grown : List (List Line)) (read : LinesRead) (lines : List Line) (line same : Line)
    → lines ≡ script_lines rows lives (script_in read) → line ≡ same
    → lives_lines lives ++ same ∷ [] ≡ lives_lines grown → lines ++ line ∷ [] ≡ script_lines rows grown (script_in read)
lives_grow rows lives grown read lines line same are is more =
    one_more lines (script_lines rows lives (script_in read)) _ line same are is
    (ap (λ ls. head_line ∷ ls) (behind (map conf_line (conf_lines read.conf)) (behind_conf rows lives read) _ same
    (behind (map interface_text read.ifaces) (behind_ifaces rows lives read) _ same
    (behind (map row_line rows) (behind_rows lives read) _ same
    (behind (map file_text read.files) (behind_files lives read) _ same
    (behind (map fail_text read.fails) (behind_fails lives read) _ same
    (behind (map hook_text read.polls) (lives_lines lives) _ same more)))))))

with_lives : (read : LinesRead) (past : List LifeScript) (last : Option LifeRead) → IsSound read → AllByRecursion (HasPassed (length read.ifaces)) past
    → FitsLast (length read.ifaces) past last
    → IsSound (record read { past = past; last = last })
with_lives read past last sound passed fits = record {
  conf = sound.conf;
  holds = sound.holds;
  ifaces = sound.ifaces;
  rows = sound.rows;
  once = sound.once;
  files = sound.files;
  unlike = sound.unlike;
  fails = sound.fails;
  polls = sound.polls;
  past = passed;
  last = fits;
}

-- the lines of lives, with a line more of the last one
record GrownLast (lives : List (List Line)) (line : Line) (lasting : List LifeScript) : Type 0 where
  grown : List (List Line)
  lived : AreSpelled SpellsLife grown lasting
  more : lives_lines lives ++ line ∷ [] ≡ lives_lines grown

last_grows : (past : List LifeScript) (old new : LifeScript) (line : Line) → ((lines : List Line) → SpellsLife lines old → SpellsLife (lines ++ line ∷ []) new)
    → (lives : List (List Line)) → AreSpelled SpellsLife lives (past ++ old ∷ []) → GrownLast lives line (past ++ new ∷ [])
last_grows [] old new line grows [] lived = absurd lived
last_grows [] old new line grows (lines ∷ []) lived = record {
  grown = (lines ++ line ∷ []) ∷ [];
  lived = (grows lines lived.0, tt);
  more = ap (λ ls. ls ++ line ∷ []) (append-nil lines) ∙ sym (append-nil (lines ++ line ∷ []));
}
last_grows [] old new line grows (lines ∷ (next ∷ lives)) lived = absurd lived.1
last_grows (life ∷ past) old new line grows [] lived = absurd lived
last_grows (life ∷ past) old new line grows (lines ∷ lives) lived =
    let later = last_grows past old new line grows lives lived.1 in
    record { grown = lines ∷ later.grown; lived = (lived.0, later.lived); more = behind lines (lives_lines lives) (lives_lines later.grown) line later.more }

passed_lives : (count : ℕ) (past : List LifeScript) (last : Option LifeRead) → AllByRecursion (HasPassed count) past → FitsLast count past last
    → may_begin last ≡ true → AllByRecursion (HasPassed count) (past ++ last_life last)
passed_lives count past None passed fits may = all_join (HasPassed count) past [] passed tt
passed_lives count past (Some read) passed fits may = all_join (HasPassed count) past (read.life ∷ []) passed ((fits.0, may), tt)

begun_fits : (count : ℕ) (begin : Begin) → FitsBegin count begin → FitsLife count (begun begin).life
begun_fits count begin fits = record {
  at = fits.at;
  salt = fits.salt;
  up = fits.up;
  turns = λ k d within. absurd (omega arith);
  over = tt;
  crash = tt;
}

pub start_grows : (read : LinesRead) (lines : List Line) (begin : Begin) → AfterLines read lines → may_begin read.last ≡ true
    → FitsBegin (length read.ifaces) begin
    → Grows lines (word_text Start ++ 32 ∷ begin_words begin) (with_start read begin)
start_grows read lines begin after comes fits =
    let sound = after.sound in
    let first = start_text begin ∷ [] in
    record {
      rows = after.rows;
      spelled = after.spelled;
      lives = after.lives ++ first ∷ [];
      lived = spelled_more SpellsLife after.lives (lives_in read) first (begun begin).life after.lived (record { turns = []; spelled = tt; are = refl });
      are =
          lives_grow after.rows after.lives (after.lives ++ first ∷ []) read lines _ (start_text begin) after.are (sym (begin_spelled begin))
          (sym (flat_map-append (λ ls. ls) after.lives (first ∷ [])));
      sound =
          with_lives read (lives_in read) (Some (begun begin)) sound (passed_lives (length read.ifaces) read.past read.last sound.past sound.last comes)
          (begun_fits (length read.ifaces) begin fits, refl);
    }

no_crash : (crash : Option CrashScript) → not (is_some crash) ≡ true → crash ≡ None
no_crash None e = refl
no_crash (Some crash) e = cc

in_time_more : (clock : _) (turns : List Given) (given : Given) → is_in_time clock turns ≡ true → not (is_over (clock_through clock turns)) ≡ true
    → is_in_time clock (turns ++ given ∷ []) ≡ true
in_time_more clock [] given e on = and_from _ _ on refl
in_time_more clock (turn ∷ turns) given e on =
    let parts = and_parts (not (is_over clock)) _ e in
    and_from _ _ parts.0 (in_time_more (clock_after clock turn.wake) turns given parts.1 on)

pub through_more : (clock : _) (turns : List Given) (given : Given)
    → clock_through clock (turns ++ given ∷ []) ≡ clock_after (clock_through clock turns) given.wake
through_more clock [] given = refl
through_more clock (turn ∷ turns) given = through_more (clock_after clock turn.wake) turns given

turn_more : (turns : List Line) (line : Line) (none : List Line) → none ≡ [] → (turns ++ none) ++ line ∷ [] ≡ (turns ++ line ∷ []) ++ none
turn_more turns line none e =
    ap (λ t. (turns ++ t) ++ line ∷ []) e
    ∙ ap (λ t. t ++ line ∷ []) (append-nil turns)
    ∙ sym (append-nil (turns ++ line ∷ []))
    ∙ ap (λ t. (turns ++ line ∷ []) ++ t) (sym e)

turn_last : (past : List LifeScript) (last : Option LifeRead) (line : Line) (given : Given) → SpellsGiven line given → is_going_on last ≡ true
    → (lives : List (List Line)) → AreSpelled SpellsLife lives (past ++ last_life last)
    → GrownLast lives line (past ++ last_life (option_map (with_turn given) last))
turn_last past None line given spells on = cc
turn_last past (Some read) line given spells on =
    let life = read.life in
    let none : life.crash ≡ None = no_crash life.crash (and_parts (not (is_some life.crash)) _ on).0 in
    last_grows past life (with_turn given read).life line
    (λ lines is. record {
      turns = is.turns ++ line ∷ [];
      spelled = spelled_more SpellsGiven is.turns life.turns line given is.spelled spells;
      are = ap (λ ls. ls ++ line ∷ []) is.are ∙ ap (λ ls. start_text life.begin ∷ ls) (turn_more is.turns line (crash_lines life.crash) (ap crash_lines none));
    })

turn_fits : (count : ℕ) (past : List LifeScript) (last : Option LifeRead) (given : Given) → FitsLast count past last → is_going_on last ≡ true
    → FitsGiven 64 given → is_listed count given.wake.event ≡ true → FitsLast count past (option_map (with_turn given) last)
turn_fits count past None given fits on given_fits listed = cc
turn_fits count past (Some read) given fits on given_fits listed =
    let life = read.life in
    let old = fits.0 in
    let going : not (is_over (clock_through (clock_at life.begin.at) life.turns)) ≡ true =
    subst (λ c. not (is_over c) ≡ true) fits.1 (and_parts (not (is_some life.crash)) _ on).1 in
    let next : FitsGiven count given =
    record { at = given_fits.at; salt = given_fits.salt; event = listed_sound count given.wake.event given_fits.event listed; bytes = given_fits.bytes } in (
      record {
        at = old.at;
        salt = old.salt;
        up = old.up;
        turns =
            All-from_recursion (FitsGiven count) (life.turns ++ given ∷ [])
            (all_join (FitsGiven count) life.turns (given ∷ []) (by_recursion (FitsGiven count) life.turns old.turns) (next, tt));
        over =
            in_time_sound (life.turns ++ given ∷ []) life.begin.at
            (in_time_more (clock_at life.begin.at) life.turns given (in_time_whole life.turns life.begin.at old.over) going);
        crash = old.crash;
      },
      ap (λ c. clock_after c given.wake) fits.1 ∙ sym (through_more (clock_at life.begin.at) life.turns given),
    )

pub turn_grows : (read : LinesRead) (lines : List Line) (text : List ℕ) (given : Given) → AfterLines read lines → is_going_on read.last ≡ true
    → SpellsTurn text given → is_listed (length read.ifaces) given.wake.event ≡ true
    → Grows lines (word_text Turn ++ 32 ∷ text) (with_last read (with_turn given))
turn_grows read lines text given after comes spells listed =
    let sound = after.sound in
    let last = turn_last read.past read.last (codes "turn " ++ text) given (turn_line text given spells) comes after.lives after.lived in
    record {
      rows = after.rows;
      spelled = after.spelled;
      lives = last.grown;
      lived = last.lived;
      are = lives_grow after.rows after.lives last.grown read lines _ (codes "turn " ++ text) after.are refl last.more;
      sound =
          with_lives read read.past (option_map (with_turn given) read.last) sound sound.past
          (turn_fits (length read.ifaces) read.past read.last given sound.last comes spells.fits listed);
    }

crash_last : (past : List LifeScript) (last : Option LifeRead) (crash : CrashScript) → has_begun last ≡ true → (lives : List (List Line))
    → AreSpelled SpellsLife lives (past ++ last_life last) → GrownLast lives (crash_text crash) (past ++ last_life (option_map (with_crash crash) last))
crash_last past None crash on = cc
crash_last past (Some read) crash on =
    let life = read.life in
    let line = crash_text crash in
    let none : life.crash ≡ None = no_crash life.crash on in
    last_grows past life (with_crash crash read).life line
    (λ lines is. record {
      turns = is.turns;
      spelled = is.spelled;
      are =
          ap (λ ls. ls ++ line ∷ []) is.are
          ∙ ap (λ ls. start_text life.begin ∷ ls) (ap (λ c. (is.turns ++ crash_lines c) ++ line ∷ []) none ∙ ap (λ ls. ls ++ line ∷ []) (append-nil is.turns));
    })

crash_fits : (count : ℕ) (past : List LifeScript) (last : Option LifeRead) (crash : CrashScript) → FitsLast count past last → has_begun last ≡ true
    → FitsCrash crash → FitsLast count past (option_map (with_crash crash) last)
crash_fits count past None crash fits on crash_fit = cc
crash_fits count past (Some read) crash fits on crash_fit =
    let old = fits.0 in
    (record { at = old.at; salt = old.salt; up = old.up; turns = old.turns; over = old.over; crash = crash_fit }, fits.1)

pub crash_grows : (read : LinesRead) (lines : List Line) (crash : CrashScript) → AfterLines read lines → has_begun read.last ≡ true → FitsCrash crash
    → Grows lines (word_text Crash ++ 32 ∷ crash_words crash) (with_last read (with_crash crash))
crash_grows read lines crash after comes fits =
    let sound = after.sound in
    let last = crash_last read.past read.last crash comes after.lives after.lived in
    record {
      rows = after.rows;
      spelled = after.spelled;
      lives = last.grown;
      lived = last.lived;
      are = lives_grow after.rows after.lives last.grown read lines _ (crash_text crash) after.are (sym (crash_spelled crash)) last.more;
      sound =
          with_lives read read.past (option_map (with_crash crash) read.last) sound sound.past
          (crash_fits (length read.ifaces) read.past read.last crash sound.last comes fits);
    }

-- ---- every line

grows : (read : LinesRead) (lines : List Line) (word : Word) (rest : List ℕ) (next : LinesRead) → AfterLines read lines
    → is_text (word_text word ++ rest) ≡ true → may_come read word ≡ true → with_line read word rest ≡ Some next → Grows lines (word_text word ++ rest) next
unfolding with_line
grows read lines Head rest next after text comes e = absurd (none-some next e)
grows read lines Conf rest next after text comes e = conf_grows read lines rest next after text comes e
grows read lines Interface rest next after text comes e =
    tested_grows lines Interface rest next (fits_next read.ifaces) (λ spec. record read { ifaces = read.ifaces ++ spec ∷ [] }) spec_reads
    (λ spec fits test. iface_grows read lines spec after (and_parts _ (before_rows read) comes).1 fits test) e
grows read lines Row rest next after text comes e =
    found_grows lines Row rest next (is_new_row read.rows) (λ row. record read { rows = read.rows ++ row ∷ [] }) row_finds
    (λ words row is test. row_grows read lines words row after comes is.0 is.1 test) e
grows read lines File rest next after text comes e =
    tested_grows lines File rest next (is_new_file read.files) (λ file. record read { files = read.files ++ file ∷ [] }) file_reads
    (λ file fits test. file_grows read lines file after comes fits test) e
grows read lines Fail rest next after text comes e =
    word_grows lines Fail rest next (λ fail. record read { fails = read.fails ++ fail ∷ [] }) fail_reads
    (λ fail fits. fail_grows read lines fail after comes fits) e
grows read lines Hook rest next after text comes e =
    word_grows lines Hook rest next (λ answer. record read { polls = read.polls ++ answer ∷ [] }) poll_reads
    (λ answer fits. poll_grows read lines answer after comes fits) e
grows read lines Start rest next after text comes e =
    word_grows lines Start rest next (with_start read) (begin_reads (length read.ifaces) (let few = after.sound.ifaces.few in few))
    (λ begin fits. start_grows read lines begin after comes fits) e
grows read lines Turn rest next after text comes e =
    found_grows lines Turn rest next (λ given. is_listed (length read.ifaces) given.wake.event) (λ given. with_last read (with_turn given)) turn_finds
    (λ words given spells listed. turn_grows read lines words given after comes spells listed) e
grows read lines Crash rest next after text comes e =
    word_grows lines Crash rest next (λ crash. with_last read (with_crash crash)) crash_reads (λ crash fits. crash_grows read lines crash after comes fits) e

pub taken : (read : LinesRead) (lines : List Line) (line : Line) (next : LinesRead) → AfterLines read lines → step_after read line ≡ Some next
    → AfterLines next (lines ++ line ∷ [])
taken read lines line next after e =
    let is = taken_is read line next e in
    let spelled : line ≡ word_text is.known.0 ++ is.known.1 = word_is line is.known is.word in
    let text : is_text (word_text is.known.0 ++ is.known.1) ≡ true = subst (λ l. is_text l ≡ true) spelled is.text in
    subst (λ l. AfterLines next (lines ++ l ∷ [])) (sym spelled) (grows read lines is.known.0 is.known.1 next after text is.comes is.grown)
