-- All lines of a script are taken to it.
use Rattle.std.proofs.Common.{◌≡◌, ℕ, ◌+◌, ◌<◌, ◌≤◌, Bool, true, not, cond, List, [], ◌∷◌, ◌++◌, map, flat_map, length, Option, Some, None, option_map, option_and_then, refl, sym, ap, ◌∙◌, subst, arith, codes, append_assoc, append-nil}
use Rattle.std.specs.Prelude.{is_some, IfSome, IsTrue}
use Rattle.std.specs.List.{AllByRecursion, AllPairs}
use Rattle.std.proofs.lemmas.Bool.{and_parts, and_from, lt-ltb}
use Rattle.std.proofs.lemmas.List.{length-append}
use Rattle.net_types.specs.declared.interface.IfSpec.{IfSpec}
use Rattle.net_types.specs.Cutting.{strip_word, guarded}
use Rattle.net_types.specs.LineReading.{run}
use Rattle.net_types.specs.Marks.{Lacks, IsPrintable}
use Rattle.net_types.specs.Reads.{Reads}
use Rattle.net_types.specs.TextLines.{Line, ended}
use Rattle.net_types.proofs.LineSteps.{run_more}
use Rattle.net_types.proofs.ReadsLaws.{word_reads, strip_whole}
use Rattle.world.specs.declared.hooking.Poll.{Poll}
use Rattle.world.specs.declared.rows.HostRow.{HostRow}
use Rattle.world.specs.FileLists.{StoreFile}
use Rattle.world.specs.LinkCalls.{Given}
use Rattle.world.specs.RowOrder.{in_row_order}
use Rattle.world.specs.Rows.{IsRow}
use Rattle.script_model.specs.declared.failing.FailLine.{FailLine}
use Rattle.script_model.specs.Crashes.{CrashScript, FitsCrash, crash_text}
use Rattle.script_model.specs.FailingCalls.{FitsFail, fail_text}
use Rattle.script_model.specs.FirstFiles.{FitsFile, UnlikeNames, file_text}
use Rattle.script_model.specs.HookAnswers.{FitsAnswer, hook_text}
use Rattle.script_model.specs.Lines.{interface_text, poll_text, start_text}
use Rattle.script_model.specs.RowSpellings.{SpellsRow}
use Rattle.script_model.specs.Scripts.{CountsFrom, Unlike, FitInterfaces, FitsGiven, FitsLife, CrashBetween, FitsScript}
use Rattle.script_model.specs.ScriptTexts.{ScriptLines, LifeScript}
use Rattle.script_model.specs.Spellings.{AreSpelled}
use Rattle.script_model.specs.TurnSpellings.{SpellsGiven}
use Rattle.script_model.proofs.SpelledRows.{spelled_printable}
use Rattle.iface_lists.proofs.UnlikeLaws.{by_recursion}
use Rattle.script_lines.specs.declared.words.Word.{Word}
use Rattle.script_lines.specs.declared.words.Word.TheVariants.{Head, Conf, Interface, Row, File, Fail, Hook, Start, Turn, Crash}
use Rattle.script_lines.specs.Clocks.{clock_at, clock_after, clock_through, is_over, is_in_time}
use Rattle.script_lines.specs.KindTests.{is_listed}
use Rattle.replay_text.specs.LinesInOrder.{conf_line, row_line, crash_lines, SpellsLife, lives_lines, script_lines}
use Rattle.script_lines.specs.ScriptContent.{conf_lines}
use Rattle.replay_text.specs.LinesRead.{LifeRead, LinesRead, last_life, script_in, nothing_read}
use Rattle.replay_text.specs.NextWords.{may_begin, may_come}
use Rattle.replay_text.specs.NextLines.{after_blank, fits_next, is_new_row, is_new_file, with_turn, with_crash, with_start, with_last, with_line}
use Rattle.replay_text.specs.ScriptReading.{step_after, step}
use Rattle.script_lines.specs.Words.{word_text, word_at, is_text}
use Rattle.script_lines.proofs.CarrierLaws.{begin_words, FitsBegin, begin_reads, begin_spelled, begin_printable}
use Rattle.script_lines.proofs.ClockLaws.{in_time_whole}
use Rattle.script_lines.proofs.CrashLaws.{crash_words, crash_reads, crash_spelled, crash_printable}
use Rattle.script_lines.proofs.FileLaws.{file_words, file_reads, file_spelled, file_printable, unlike_new}
use Rattle.script_lines.proofs.Grown.{all_next, pairs_front, pairs_next, pairs_tail, once_next}
use Rattle.script_lines.proofs.LineLaws.{spec_text, FitsSpec, spec_reads, spec_spelled, spec_printable, fail_words, fail_reads, fail_spelled, fail_printable, turn_words, SpellsTurn, turn_finds, turn_spelled, turn_printable}
use Rattle.script_lines.proofs.PollLaws.{poll_reads, poll_printable}
use Rattle.script_lines.proofs.Printables.{no_feed_in}
use Rattle.row_texts.proofs.RowLaws.{row_finds}
use Rattle.row_texts.proofs.SpellingLaws.{Finds}
use Rattle.script_lines.proofs.ConfLineLaws.{conf_lines_of}
use Rattle.replay_text.proofs.TakenLines.{lines_ended, through_more}
use Rattle.script_lines.proofs.TestLaws.{interfaces_whole, listed_whole}
use Rattle.script_lines.proofs.WordLaws.{blank_word, conf_word}

-- ---- one line

pub line_step : (read : LinesRead) (line : Line) (word : Word) (rest : List ℕ) (next : LinesRead) → is_text line ≡ true → word_at line ≡ Some (word, rest)
    → may_come read word ≡ true → with_line read word rest ≡ Some next → step (Some read) line ≡ Some (Some next)
unfolding step_after
line_step read line word rest next text is comes grown = rw (text, is, comes, grown) refl

-- a line of printable bytes but for the configuration's
printed_text : (word : Word) (said : List ℕ) → IsPrintable said → is_text (word_text word ++ 32 ∷ said) ≡ true
unfolding is_text strip_word
printed_text Head said only = only
printed_text Interface said only = only
printed_text Row said only = only
printed_text File said only = only
printed_text Fail said only = only
printed_text Hook said only = only
printed_text Start said only = only
printed_text Turn said only = only
printed_text Crash said only = only
printed_text Conf said only = no_feed_in said only

pub word_line : (read : LinesRead) (line : Line) (word : Word) (said : List ℕ) (next : LinesRead) → line ≡ word_text word ++ 32 ∷ said
    → is_text (word_text word ++ 32 ∷ said) ≡ true → may_come read word ≡ true → with_line read word (32 ∷ said) ≡ Some next
    → step (Some read) line ≡ Some (Some next)
word_line read line word said next spelled text comes grown =
    ap (step (Some read)) spelled ∙ line_step read (word_text word ++ 32 ∷ said) word (32 ∷ said) next text (blank_word word said) comes grown

guarded_whole : {X : Type 0} {text_of : X → List ℕ} {Fits : X → Type 0} {found : List ℕ → Option X} (test : X → Bool) (x : X) → Reads text_of Fits found
    → Fits x → test x ≡ true → guarded test (after_blank found (32 ∷ text_of x)) ≡ Some x
guarded_whole test x law fits passes = ap (guarded test) ((word_reads (codes " ") law).whole x fits) ∙ ap (λ b. cond b (Some x) None) passes

found_whole : {X : Type 0} {Spells : List ℕ → X → Type 0} {found : List ℕ → Option X} (test : X → Bool) (text : List ℕ) (x : X) → Finds Spells found
    → Spells text x → test x ≡ true → guarded test (after_blank found (32 ∷ text)) ≡ Some x
found_whole {found = found} test text x law spells passes =
    ap (guarded test) (ap (option_and_then found) (strip_whole (codes " ") text) ∙ law.whole text x spells) ∙ ap (λ b. cond b (Some x) None) passes

-- ---- lines of one kind

blocks : {X : Type 0} (line_of : X → Line) (put : List X → LinesRead) (Fit : List X → Type 0)
    → ((done : List X) (x : X) (later : List X) → Fit (done ++ x ∷ later) → step (Some (put done)) (line_of x) ≡ Some (Some (put (done ++ x ∷ []))))
    → (done xs : List X) → Fit (done ++ xs) → run step (map line_of xs) (Some (put done)) ≡ Some (Some (put (done ++ xs)))
blocks line_of put Fit law done [] fit = ap (λ d. Some (Some (put d))) (sym (append-nil done))
blocks line_of put Fit law done (x ∷ xs) fit =
    ap (option_and_then (run step (map line_of xs))) (law done x xs fit)
    ∙ blocks line_of put Fit law (done ++ x ∷ []) xs (subst Fit (sym (append_assoc done (x ∷ []) xs)) fit)
    ∙ ap (λ d. Some (Some (put d))) (append_assoc done (x ∷ []) xs)

-- what follows lines that were taken
follow : (lines more : List Line) (s t : Option LinesRead) (end : Option (Option LinesRead)) → run step lines s ≡ Some t → run step more t ≡ end
    → run step (lines ++ more) s ≡ end
follow lines more s t end first others = run_more step lines more s t first ∙ others

abbrev lines_at : List ℕ → List IfSpec → List HostRow → List StoreFile → List FailLine → List (Option Poll) → List LifeScript → Option LifeRead → LinesRead
lines_at conf ifaces rows files fails polls past last =
    record { conf = conf; ifaces = ifaces; rows = rows; files = files; fails = fails; polls = polls; past = past; last = last }

conf_text : (text : List ℕ) → Lacks 10 text → is_text (codes "c:" ++ text) ≡ true
unfolding is_text strip_word
conf_text text free = free

conf_step : (done : List (List ℕ)) (text : List ℕ) (later : List (List ℕ)) → AllByRecursion (Lacks 10) (done ++ text ∷ later)
    → step (Some (lines_at (flat_map ended done) [] [] [] [] [] [] None)) (conf_line text)
    ≡ Some (Some (lines_at (flat_map ended (done ++ text ∷ [])) [] [] [] [] [] [] None))
unfolding with_line
conf_step done text later free =
    line_step (lines_at (flat_map ended done) [] [] [] [] [] [] None) (conf_line text) Conf text
    (lines_at (flat_map ended (done ++ text ∷ [])) [] [] [] [] [] [] None)
    (conf_text text (all_next (Lacks 10) done text later free)) (conf_word text) refl
    (ap (λ c. Some (lines_at c [] [] [] [] [] [] None)) (sym (lines_ended done text)))

counted_front : (index : ℕ) (xs ys : List IfSpec) → CountsFrom index (xs ++ ys) → CountsFrom index xs
counted_front index [] ys counts = tt
counted_front index (x ∷ xs) ys counts = (counts.0, counts.1, counts.2, counted_front (index + 1) xs ys counts.3)

ifaces_front : (xs ys : List IfSpec) → FitInterfaces (xs ++ ys) → FitInterfaces xs
ifaces_front xs ys fit =
    let few = fit.few in
    record { few = omega (arith, few, length-append xs ys); counted = counted_front 1 xs ys fit.counted; unlike = pairs_front Unlike xs ys fit.unlike }

iface_step : (conf : List ℕ) (done : List IfSpec) (spec : IfSpec) (later : List IfSpec) → FitInterfaces (done ++ spec ∷ later)
    → step (Some (lines_at conf done [] [] [] [] [] None)) (interface_text spec) ≡ Some (Some (lines_at conf (done ++ spec ∷ []) [] [] [] [] [] None))
unfolding with_line
iface_step conf done spec later fit =
    let front = ifaces_front (done ++ spec ∷ []) later (subst FitInterfaces (sym (append_assoc done (spec ∷ []) later)) fit) in
    let are = interfaces_whole (done ++ spec ∷ []) front in
    let fits : FitsSpec spec = all_next FitsSpec done spec [] are.each in
    let few = front.few in
    let room : length done < 64 = omega (arith, few, length-append done (spec ∷ [])) in
    word_line (lines_at conf done [] [] [] [] [] None) (interface_text spec) Interface (spec_text spec) (lines_at conf (done ++ spec ∷ []) [] [] [] [] [] None)
    (spec_spelled spec) (printed_text Interface (spec_text spec) (spec_printable spec fits)) (and_from _ _ (lt-ltb _ _ room) refl)
    (ap (option_map (λ s. lines_at conf (done ++ s ∷ []) [] [] [] [] [] None)) (guarded_whole (fits_next done) spec spec_reads fits are.test))

row_step : (conf : List ℕ) (ifaces : List IfSpec) (done : List HostRow) (text : List ℕ) (row : HostRow) (later : List HostRow) → SpellsRow text row → IsRow row
    → length (in_row_order (done ++ row ∷ later)) ≡ length (done ++ row ∷ later)
    → step (Some (lines_at conf ifaces done [] [] [] [] None)) (row_line text) ≡ Some (Some (lines_at conf ifaces (done ++ row ∷ []) [] [] [] [] None))
unfolding with_line
row_step conf ifaces done text row later spells is once =
    let new : is_new_row done row ≡ true = ap not (once_next done row later once) in
    word_line (lines_at conf ifaces done [] [] [] [] None) (row_line text) Row text (lines_at conf ifaces (done ++ row ∷ []) [] [] [] [] None)
    refl (printed_text Row text (spelled_printable text row is spells)) refl
    (ap (option_map (λ r. lines_at conf ifaces (done ++ r ∷ []) [] [] [] [] None)) (found_whole (is_new_row done) text row row_finds (spells, is) new))

rows_run : (conf : List ℕ) (ifaces : List IfSpec) (done : List HostRow) (texts : List (List ℕ)) (rows : List HostRow) → AreSpelled SpellsRow texts rows
    → AllByRecursion IsRow rows → length (in_row_order (done ++ rows)) ≡ length (done ++ rows)
    → run step (map row_line texts) (Some (lines_at conf ifaces done [] [] [] [] None)) ≡ Some (Some (lines_at conf ifaces (done ++ rows) [] [] [] [] None))
rows_run conf ifaces done [] [] spelled are once = ap (λ d. Some (Some (lines_at conf ifaces d [] [] [] [] None))) (sym (append-nil done))
rows_run conf ifaces done [] (row ∷ rows) spelled are once = absurd spelled
rows_run conf ifaces done (text ∷ texts) [] spelled are once = absurd spelled
rows_run conf ifaces done (text ∷ texts) (row ∷ rows) spelled are once =
    ap (option_and_then (run step (map row_line texts))) (row_step conf ifaces done text row rows spelled.0 are.0 once)
    ∙ rows_run conf ifaces (done ++ row ∷ []) texts rows spelled.1 are.1
    (subst (λ rs. length (in_row_order rs) ≡ length rs) (sym (append_assoc done (row ∷ []) rows)) once)
    ∙ ap (λ d. Some (Some (lines_at conf ifaces d [] [] [] [] None))) (append_assoc done (row ∷ []) rows)

abbrev FitFiles : List StoreFile → Type 0
FitFiles files = AllByRecursion FitsFile files × AllPairs UnlikeNames files

file_step : (conf : List ℕ) (ifaces : List IfSpec) (rows : List HostRow) (done : List StoreFile) (file : StoreFile) (later : List StoreFile)
    → FitFiles (done ++ file ∷ later)
    → step (Some (lines_at conf ifaces rows done [] [] [] None)) (file_text file) ≡ Some (Some (lines_at conf ifaces rows (done ++ file ∷ []) [] [] [] None))
unfolding with_line
file_step conf ifaces rows done file later fit =
    let fits : FitsFile file = all_next FitsFile done file later fit.0 in
    let new : is_new_file done file ≡ true = ap not (unlike_new done file (pairs_next UnlikeNames done file later fit.1)) in
    word_line (lines_at conf ifaces rows done [] [] [] None) (file_text file) File (file_words file)
    (lines_at conf ifaces rows (done ++ file ∷ []) [] [] [] None)
    (file_spelled file) (printed_text File (file_words file) (file_printable file fits)) refl
    (ap (option_map (λ f. lines_at conf ifaces rows (done ++ f ∷ []) [] [] [] None)) (guarded_whole (is_new_file done) file file_reads fits new))

fail_step : (conf : List ℕ) (ifaces : List IfSpec) (rows : List HostRow) (files : List StoreFile) (done : List FailLine) (fail : FailLine)
    (later : List FailLine)
    → AllByRecursion FitsFail (done ++ fail ∷ later)
    → step (Some (lines_at conf ifaces rows files done [] [] None)) (fail_text fail)
    ≡ Some (Some (lines_at conf ifaces rows files (done ++ fail ∷ []) [] [] None))
unfolding with_line
fail_step conf ifaces rows files done fail later fit =
    let fits : FitsFail fail = all_next FitsFail done fail later fit in
    word_line (lines_at conf ifaces rows files done [] [] None) (fail_text fail) Fail (fail_words fail)
    (lines_at conf ifaces rows files (done ++ fail ∷ []) [] [] None)
    (fail_spelled fail) (printed_text Fail (fail_words fail) (fail_printable fail fits)) refl
    (ap (option_map (λ f. lines_at conf ifaces rows files (done ++ f ∷ []) [] [] None)) ((word_reads (codes " ") fail_reads).whole fail fits))

poll_step : (conf : List ℕ) (ifaces : List IfSpec) (rows : List HostRow) (files : List StoreFile) (fails : List FailLine) (done : List (Option Poll))
    (answer : Option Poll) (later : List (Option Poll))
    → AllByRecursion FitsAnswer (done ++ answer ∷ later)
    → step (Some (lines_at conf ifaces rows files fails done [] None)) (hook_text answer)
    ≡ Some (Some (lines_at conf ifaces rows files fails (done ++ answer ∷ []) [] None))
unfolding with_line
poll_step conf ifaces rows files fails done answer later fit =
    let fits : FitsAnswer answer = all_next FitsAnswer done answer later fit in
    word_line (lines_at conf ifaces rows files fails done [] None) (hook_text answer) Hook (poll_text answer)
    (lines_at conf ifaces rows files fails (done ++ answer ∷ []) [] None)
    refl (printed_text Hook (poll_text answer) (poll_printable answer fits)) refl
    (ap (option_map (λ a. lines_at conf ifaces rows files fails (done ++ a ∷ []) [] None)) ((word_reads (codes " ") poll_reads).whole answer fits))

-- ---- one life

abbrev with_lives : LinesRead → List LifeScript → Option LifeRead → LinesRead
with_lives read past last = record read { past = past; last = last }

-- a life so far, without a crash
abbrev life_so_far : LifeScript → List Given → LifeRead
life_so_far life turns = record {
  life = record { begin = life.begin; turns = turns; crash = None };
  clock = clock_through (clock_at life.begin.at) turns;
}

abbrev whole_life : LifeScript → LifeRead
whole_life life = record { life = life; clock = clock_through (clock_at life.begin.at) life.turns }

start_step : (read : LinesRead) (past : List LifeScript) (last : Option LifeRead) (life : LifeScript) → length read.ifaces ≤ 64 → may_begin last ≡ true
    → FitsLife (length read.ifaces) life
    → step (Some (with_lives read past last)) (start_text life.begin) ≡ Some (Some (with_lives read (past ++ last_life last) (Some (life_so_far life []))))
unfolding with_line
start_step read past last life few may fits =
    let begin : FitsBegin (length read.ifaces) life.begin = record { at = fits.at; salt = fits.salt; up = fits.up } in
    word_line (with_lives read past last) (start_text life.begin) Start (begin_words life.begin)
    (with_lives read (past ++ last_life last) (Some (life_so_far life [])))
    (begin_spelled life.begin) (printed_text Start (begin_words life.begin) (begin_printable (length read.ifaces) life.begin few begin)) may
    (ap (option_map (with_start (with_lives read past last))) ((word_reads (codes " ") (begin_reads (length read.ifaces) few)).whole life.begin begin))

going_on : (clock : _) (done : List Given) (given : Given) (later : List Given) → is_in_time clock (done ++ given ∷ later) ≡ true
    → not (is_over (clock_through clock done)) ≡ true
going_on clock [] given later e = (and_parts (not (is_over clock)) _ e).0
going_on clock (turn ∷ done) given later e = going_on (clock_after clock turn.wake) done given later (and_parts (not (is_over clock)) _ e).1

abbrev FitTurns : ℕ → ℕ → List Given → Type 0
FitTurns count at turns = AllByRecursion (FitsGiven count) turns × (is_in_time (clock_at at) turns ≡ true)

turn_step : (read : LinesRead) (past : List LifeScript) (life : LifeScript) → length read.ifaces ≤ 64
    → (done : List Given) (line : Line) (given : Given) (later : List Given) → SpellsGiven line given
    → FitTurns (length read.ifaces) life.begin.at (done ++ given ∷ later)
    → step (Some (with_lives read past (Some (life_so_far life done)))) line ≡ Some (Some (with_lives read past (Some (life_so_far life (done ++ given ∷ [])))))
unfolding with_line
turn_step read past life few done line given later spells fit =
    let count = length read.ifaces in
    let fits : FitsGiven count given = all_next (FitsGiven count) done given later fit.0 in
    let listed = listed_whole count given.wake.event few fits.event in
    let words = turn_words given spells.event in
    let turn : SpellsTurn words given =
    record {
      event = spells.event;
      spelled = refl;
      spells = spells.spells;
      fits = record { at = fits.at; salt = fits.salt; event = listed.0; bytes = fits.bytes };
    }
    in
    word_line (with_lives read past (Some (life_so_far life done))) line Turn words (with_lives read past (Some (life_so_far life (done ++ given ∷ []))))
    (turn_spelled line given spells) (printed_text Turn words (turn_printable words given turn)) (going_on (clock_at life.begin.at) done given later fit.1)
    (ap (option_map (λ g. with_last (with_lives read past (Some (life_so_far life done))) (with_turn g)))
    (found_whole (λ g. is_listed count g.wake.event) words given turn_finds turn listed.1)
    ∙ ap (λ c. Some (with_lives read past (Some (record { life = record { begin = life.begin; turns = done ++ given ∷ []; crash = None }; clock = c }))))
    (sym (through_more (clock_at life.begin.at) done given)))

turns_run : (read : LinesRead) (past : List LifeScript) (life : LifeScript) → length read.ifaces ≤ 64
    → (done : List Given) (lines : List Line) (turns : List Given) → AreSpelled SpellsGiven lines turns
    → FitTurns (length read.ifaces) life.begin.at (done ++ turns)
    → run step lines (Some (with_lives read past (Some (life_so_far life done)))) ≡ Some (Some (with_lives read past (Some (life_so_far life (done ++ turns)))))
turns_run read past life few done [] [] spelled fit = ap (λ d. Some (Some (with_lives read past (Some (life_so_far life d))))) (sym (append-nil done))
turns_run read past life few done [] (given ∷ turns) spelled fit = absurd spelled
turns_run read past life few done (line ∷ lines) [] spelled fit = absurd spelled
turns_run read past life few done (line ∷ lines) (given ∷ turns) spelled fit =
    ap (option_and_then (run step lines)) (turn_step read past life few done line given turns spelled.0 fit)
    ∙ turns_run read past life few (done ++ given ∷ []) lines turns spelled.1
    (subst (FitTurns (length read.ifaces) life.begin.at) (sym (append_assoc done (given ∷ []) turns)) fit)
    ∙ ap (λ d. Some (Some (with_lives read past (Some (life_so_far life d))))) (append_assoc done (given ∷ []) turns)

crash_step : (read : LinesRead) (past : List LifeScript) (life : LifeScript) (crash : Option CrashScript) → IfSome crash FitsCrash
    → run step (crash_lines crash) (Some (with_lives read past (Some (life_so_far life life.turns))))
    ≡ Some (Some (with_lives read past (Some (whole_life (record life { crash = crash })))))
unfolding with_line
crash_step read past life None fits = refl
crash_step read past life (Some crash) fits =
    ap (option_and_then (run step []))
    (word_line (with_lives read past (Some (life_so_far life life.turns))) (crash_text crash) Crash (crash_words crash)
    (with_lives read past (Some (whole_life (record life { crash = Some crash }))))
    (crash_spelled crash) (printed_text Crash (crash_words crash) (crash_printable crash fits)) refl
    (ap (option_map (λ c. with_last (with_lives read past (Some (life_so_far life life.turns))) (with_crash c)))
    ((word_reads (codes " ") crash_reads).whole crash fits)))

life_run : (read : LinesRead) (past : List LifeScript) (last : Option LifeRead) (lines : List Line) (life : LifeScript) → SpellsLife lines life
    → length read.ifaces ≤ 64 → may_begin last ≡ true → FitsLife (length read.ifaces) life
    → run step lines (Some (with_lives read past last)) ≡ Some (Some (with_lives read (past ++ last_life last) (Some (whole_life life))))
life_run read past last lines life spells few may fits =
    let count = length read.ifaces in
    let gone = past ++ last_life last in
    ap (λ ls. run step ls (Some (with_lives read past last))) spells.are
    ∙ ap (option_and_then (run step (spells.turns ++ crash_lines life.crash))) (start_step read past last life few may fits)
    ∙ follow spells.turns (crash_lines life.crash) (Some (with_lives read gone (Some (life_so_far life []))))
    (Some (with_lives read gone (Some (life_so_far life life.turns)))) _
    (turns_run read gone life few [] spells.turns life.turns spells.spelled
    (by_recursion (FitsGiven count) life.turns fits.turns, in_time_whole life.turns life.begin.at fits.over))
    (crash_step read gone life life.crash fits.crash)

-- ---- the lives

record LivesRun (read : LinesRead) (past : List LifeScript) (last : Option LifeRead) (lines : List (List Line)) (lives : List LifeScript) : Type 0 where
  gone : List LifeScript
  life : LifeRead
  runs : run step (lives_lines lines) (Some (with_lives read past last)) ≡ Some (Some (with_lives read gone (Some life)))
  are : gone ++ life.life ∷ [] ≡ (past ++ last_life last) ++ lives

lives_run : (read : LinesRead) (past : List LifeScript) (last : Option LifeRead) (lines : List (List Line)) (life : LifeScript) (lives : List LifeScript)
    → AreSpelled SpellsLife lines (life ∷ lives) → length read.ifaces ≤ 64 → may_begin last ≡ true
    → AllByRecursion (FitsLife (length read.ifaces)) (life ∷ lives) → CrashBetween (life ∷ lives)
    → LivesRun read past last lines (life ∷ lives)
lives_run read past last [] life lives lived few may fits parted = absurd lived
lives_run read past last (first ∷ []) life [] lived few may fits parted = record {
  gone = past ++ last_life last;
  life = whole_life life;
  runs = ap (λ ls. run step ls (Some (with_lives read past last))) (append-nil first) ∙ life_run read past last first life lived.0 few may fits.0;
  are = refl;
}
lives_run read past last (first ∷ (second ∷ lines)) life [] lived few may fits parted = absurd lived.1
lives_run read past last (first ∷ lines) life (next ∷ lives) lived few may fits parted =
    let gone = past ++ last_life last in
    let others =
    lives_run read gone (Some (whole_life life)) lines next lives lived.1 few (parted 0 1 life (omega arith) (omega arith)) fits.1
    (pairs_tail (λ one later. IsTrue (is_some one.crash)) life (next ∷ lives) parted) in
    record {
      gone = others.gone;
      life = others.life;
      runs =
          follow first (lives_lines lines) (Some (with_lives read past last)) (Some (with_lives read gone (Some (whole_life life)))) _
          (life_run read past last first life lived.0 few may fits.0) others.runs;
      are = others.are ∙ append_assoc gone (life ∷ []) (next ∷ lives);
    }

-- ---- scripts

pub record WholeOf (rows : List (List ℕ)) (lives : List (List Line)) (script : ScriptLines) : Type 0 where
  pub read : LinesRead
  pub runs : run step (script_lines rows lives script) None ≡ Some (Some read)
  pub is : script_in read ≡ script
  pub conf : read.conf ≡ flat_map ended script.conf
  pub some : is_some read.last ≡ true

same_script : (script : ScriptLines) (conf : List (List ℕ)) (lives : List LifeScript) → conf ≡ script.conf → lives ≡ script.lives
    → record script { conf = conf; lives = lives } ≡ script
same_script script conf lives texts are = ap (λ c. record script { conf = c; lives = lives }) texts ∙ ap (λ ls. record script { lives = ls }) are

with_life : (rows : List (List ℕ)) (lines : List (List Line)) (script : ScriptLines) → AreSpelled SpellsRow rows script.rows
    → AreSpelled SpellsLife lines script.lives → FitsScript script → (life : LifeScript) (lives : List LifeScript) → script.lives ≡ life ∷ lives
    → WholeOf rows lines script
with_life rows lines script spelled lived fits life lives first =
    let conf = flat_map ended script.conf in
    let few = fits.ifaces.few in
    let free = by_recursion (Lacks 10) script.conf fits.conf in
    let base : LinesRead = lines_at conf script.ifaces script.rows script.files script.fails script.polls [] None in
    let count = length script.ifaces in
    let each : AllByRecursion (FitsLife count) (life ∷ lives) =
    subst (AllByRecursion (FitsLife count)) first (by_recursion (FitsLife count) script.lives fits.lives) in
    let of_lives =
    lives_run base [] None lines life lives (subst (AreSpelled SpellsLife lines) first lived) few refl each (subst CrashBetween first fits.parted) in
    let end : Option (Option LinesRead) = Some (Some (with_lives base of_lives.gone (Some of_lives.life))) in
    let polls_end =
    follow (map hook_text script.polls) (lives_lines lines) (Some (lines_at conf script.ifaces script.rows script.files script.fails [] [] None))
    (Some base) end
    (blocks hook_text (λ polls. lines_at conf script.ifaces script.rows script.files script.fails polls [] None) (AllByRecursion FitsAnswer)
    (poll_step conf script.ifaces script.rows script.files script.fails) [] script.polls (by_recursion FitsAnswer script.polls fits.polls))
    of_lives.runs in
    let fails_end =
    follow (map fail_text script.fails) (map hook_text script.polls ++ lives_lines lines)
    (Some (lines_at conf script.ifaces script.rows script.files [] [] [] None))
    (Some (lines_at conf script.ifaces script.rows script.files script.fails [] [] None)) end
    (blocks fail_text (λ fails. lines_at conf script.ifaces script.rows script.files fails [] [] None) (AllByRecursion FitsFail)
    (fail_step conf script.ifaces script.rows script.files) [] script.fails (by_recursion FitsFail script.fails fits.fails))
    polls_end in
    let files_end =
    follow (map file_text script.files) (map fail_text script.fails ++ (map hook_text script.polls ++ lives_lines lines))
    (Some (lines_at conf script.ifaces script.rows [] [] [] [] None)) (Some (lines_at conf script.ifaces script.rows script.files [] [] [] None)) end
    (blocks file_text (λ files. lines_at conf script.ifaces script.rows files [] [] [] None) FitFiles (file_step conf script.ifaces script.rows) [] script.files
    (by_recursion FitsFile script.files fits.files, fits.unlike))
    fails_end in
    let rows_end =
    follow (map row_line rows) (map file_text script.files ++ (map fail_text script.fails ++ (map hook_text script.polls ++ lives_lines lines)))
    (Some (lines_at conf script.ifaces [] [] [] [] [] None)) (Some (lines_at conf script.ifaces script.rows [] [] [] [] None)) end
    (rows_run conf script.ifaces [] rows script.rows spelled (by_recursion IsRow script.rows fits.rows) fits.once)
    files_end in
    let ifaces_end =
    follow (map interface_text script.ifaces)
    (map row_line rows ++ (map file_text script.files ++ (map fail_text script.fails ++ (map hook_text script.polls ++ lives_lines lines))))
    (Some (lines_at conf [] [] [] [] [] [] None)) (Some (lines_at conf script.ifaces [] [] [] [] [] None)) end
    (blocks interface_text (λ ifaces. lines_at conf ifaces [] [] [] [] [] None) FitInterfaces (iface_step conf) [] script.ifaces fits.ifaces)
    rows_end in
    let conf_end =
    follow (map conf_line script.conf)
    (map interface_text script.ifaces
    ++ (map row_line rows ++ (map file_text script.files ++ (map fail_text script.fails ++ (map hook_text script.polls ++ lives_lines lines)))))
    (Some nothing_read) (Some (lines_at conf [] [] [] [] [] [] None)) end
    (blocks conf_line (λ texts. lines_at (flat_map ended texts) [] [] [] [] [] [] None) (AllByRecursion (Lacks 10)) conf_step [] script.conf free)
    ifaces_end in
    record {
      read = with_lives base of_lives.gone (Some of_lives.life);
      runs = conf_end;
      is = same_script script (conf_lines conf) (of_lives.gone ++ of_lives.life.life ∷ []) (conf_lines_of script.conf free) (of_lives.are ∙ sym first);
      conf = refl;
      some = refl;
    }

pub whole_of : (rows : List (List ℕ)) (lines : List (List Line)) (script : ScriptLines) → AreSpelled SpellsRow rows script.rows
    → AreSpelled SpellsLife lines script.lives → FitsScript script → WholeOf rows lines script
whole_of rows lines script spelled lived fits = by script.lives refl
  where
    by : (lives : List LifeScript) → script.lives ≡ lives → WholeOf rows lines script
    by [] none = absurd (omega (arith, fits.some, ap length none))
    by (life ∷ lives) first = with_life rows lines script spelled lived fits life lives first
