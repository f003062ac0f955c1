-- Where a line may stand: what a state tells is so of the lines before it.
use Rattle.std.proofs.Common.{◌≡◌, ℕ, ◌<◌, Bool, true, false, not, cond, eqb, leb, List, [], ◌∷◌, ◌++◌, map, filter, flat_map, length, Option, Some, None, option_map, option_and_then, refl, sym, ap, ◌∙◌, subst, arith, codes, append_assoc, append-nil}
use Rattle.std.specs.Prelude.{is_some, ◌&&◌, ◌||◌}
use Rattle.std.specs.List.{list_all}
use Rattle.std.proofs.lemmas.Bool.{and_parts, and_from, le-leb, ltb-true, lt-ltb}
use Rattle.std.proofs.lemmas.List.{length-map}
use Rattle.std.proofs.lemmas.List.Elements.{filter-append}
use Rattle.std.proofs.lemmas.List.Folds.{list_all-append}
use Rattle.std.proofs.lemmas.Option.{none-some}
use Rattle.net_types.specs.Cutting.{strip_word}
use Rattle.net_types.specs.FirstBadLine.{Begins}
use Rattle.net_types.specs.LineFormats.{Completes}
use Rattle.net_types.specs.LineReading.{run}
use Rattle.net_types.specs.Marks.{Lacks}
use Rattle.net_types.specs.TextLines.{Line, ended, lines_text}
use Rattle.net_types.proofs.FirstBadLaws.{goes_on}
use Rattle.net_types.proofs.LineSteps.{run_more, text_more}
use Rattle.world.specs.declared.rows.HostRow.{HostRow}
use Rattle.world.specs.declared.wakes.Event.TheVariants.{Quiet}
use Rattle.world.specs.LinkCalls.{Given}
use Rattle.script_model.specs.declared.crashing.CrashKind.TheVariants.{Old}
use Rattle.script_model.specs.Crashes.{CrashScript, crash_text}
use Rattle.script_model.specs.FailingCalls.{fail_text}
use Rattle.script_model.specs.FirstFiles.{file_text}
use Rattle.script_model.specs.HookAnswers.{hook_text}
use Rattle.script_model.specs.Lines.{interface_text, poll_text, start_text}
use Rattle.script_model.specs.RowSpellings.{SpellsRow}
use Rattle.script_model.specs.Scripts.{FitsGiven}
use Rattle.script_model.specs.ScriptTexts.{ScriptLines, LifeScript}
use Rattle.script_model.specs.Spellings.{AreSpelled}
use Rattle.script_model.specs.TurnSpellings.{SpellsGiven}
use Rattle.script_lines.specs.declared.words.Word.{Word}
use Rattle.script_lines.specs.declared.words.Word.TheVariants.{Head, Conf, Interface, Row, File, Fail, Hook, Start, Turn, Crash}
use Rattle.replay_text.specs.Places.{rank, rank_of, interfaces_in, IsInPlace}
use Rattle.replay_text.specs.LinesInOrder.{head_line, conf_line, row_line, crash_lines, SpellsLife, lives_lines, SpellsScript, script_lines}
use Rattle.replay_text.specs.ReadLines.{SpellsRead, FitsLast, AfterLines}
use Rattle.script_lines.specs.ScriptContent.{conf_lines}
use Rattle.replay_text.specs.LinesRead.{LifeRead, LinesRead, last_life, lives_in, script_in}
use Rattle.replay_text.specs.NextWords.{none_of, before_lives, before_rows, may_come}
use Rattle.replay_text.specs.NextLines.{with_turn, with_crash, with_start, with_last}
use Rattle.replay_text.specs.ScriptReading.{step_after, step}
use Rattle.script_lines.specs.Words.{word_text, word_at}
use Rattle.script_lines.proofs.CarrierLaws.{begin_words, begin_spelled}
use Rattle.script_lines.proofs.CrashLaws.{crash_words, crash_spelled}
use Rattle.script_lines.proofs.FileLaws.{file_words, file_spelled}
use Rattle.script_lines.proofs.LineLaws.{spec_text, spec_spelled, fail_words, fail_spelled, turn_words, SpellsTurn, turn_spelled}
use Rattle.replay_text.proofs.ReadScripts.{first_begin, first_fits, completed, whole, are, run_lines}
use Rattle.replay_text.proofs.TakenLines.{taken_is, start_grows, turn_grows, crash_grows}
use Rattle.script_lines.proofs.WordLaws.{word_begins, blank_word, conf_word}

-- ---- the words of written lines

head_word : word_at head_line ≡ Some (Head, codes " 1")
unfolding word_at strip_word
head_word = refl

spelled_word : (line : Line) (word : Word) (said : List ℕ) → line ≡ word_text word ++ 32 ∷ said → rank_of (word_at line) ≡ rank word
spelled_word line word said spelled = ap rank_of (ap word_at spelled ∙ blank_word word said)

head_rank : rank_of (word_at head_line) ≡ 0
head_rank = ap rank_of head_word

start_rank : (life : LifeScript) → rank_of (word_at (start_text life.begin)) ≡ 7
start_rank life = spelled_word (start_text life.begin) Start (begin_words life.begin) (begin_spelled life.begin)

-- ---- lines of one kind

abbrev within : ℕ → Line → Bool
within k line = leb (rank_of (word_at line)) k

either_none : (b n : Bool) → (b && (b || n)) ≡ (b || false)
either_none true n = refl
either_none false n = refl

or_true : (b : Bool) → (b || true) ≡ true
or_true true = refl
or_true false = refl

kind_within : {X : Type 0} (f : X → Line) (k n : ℕ) → ((x : X) → rank_of (word_at (f x)) ≡ n) → (xs : List X)
    → list_all (within k) (map f xs) ≡ (leb n k || none_of xs)
kind_within f k n law [] = sym (or_true (leb n k))
kind_within f k n law (x ∷ xs) =
    ap (λ r. leb r k && list_all (within k) (map f xs)) (law x) ∙ ap (λ b. leb n k && b) (kind_within f k n law xs) ∙ either_none (leb n k) (none_of xs)

lives_within : (k : ℕ) → leb 7 k ≡ false → (lines : List (List Line)) (lives : List LifeScript) → AreSpelled SpellsLife lines lives
    → list_all (within k) (lives_lines lines) ≡ none_of lives
lives_within k low [] [] lived = refl
lives_within k low [] (life ∷ lives) lived = absurd lived
lives_within k low (first ∷ lines) [] lived = absurd lived
lives_within k low (first ∷ lines) (life ∷ lives) lived =
    let spells = lived.0 in
    let later = (spells.turns ++ crash_lines life.crash) ++ lives_lines lines in
    ap (λ ls. list_all (within k) (ls ++ lives_lines lines)) spells.are
    ∙ ap (λ r. leb r k && list_all (within k) later) (start_rank life)
    ∙ ap (λ b. b && list_all (within k) later) low

joined : (k : ℕ) (xs ys : List Line) (a b : Bool) → list_all (within k) xs ≡ a → list_all (within k) ys ≡ b → list_all (within k) (xs ++ ys) ≡ (a && b)
joined k xs ys a b one other = list_all-append (within k) xs ys ∙ ap (λ c. c && list_all (within k) ys) one ∙ ap (λ c. a && c) other

abbrev ranked : ℕ → List (List ℕ) → ScriptLines → Bool
ranked k rows s =
    (leb 1 k || none_of s.conf)
    &&
    ((leb 2 k || none_of s.ifaces)
    &&
    ((leb 3 k || none_of rows)
    && ((leb 4 k || none_of s.files) && ((leb 5 k || none_of s.fails) && ((leb 6 k || none_of s.polls) && none_of s.lives)))))

in_order_is : (k : ℕ) (rows : List (List ℕ)) (lives : List (List Line)) (s : ScriptLines) → AreSpelled SpellsLife lives s.lives → leb 7 k ≡ false
    → list_all (within k) (script_lines rows lives s) ≡ ranked k rows s
in_order_is k rows lives s lived low =
    let conf_block = kind_within conf_line k 1 (λ text. ap rank_of (conf_word text)) s.conf in
    let iface_block = kind_within interface_text k 2 (λ spec. spelled_word (interface_text spec) Interface (spec_text spec) (spec_spelled spec)) s.ifaces in
    let row_block = kind_within row_line k 3 (λ text. spelled_word (row_line text) Row text refl) rows in
    let file_block = kind_within file_text k 4 (λ file. spelled_word (file_text file) File (file_words file) (file_spelled file)) s.files in
    let fail_block = kind_within fail_text k 5 (λ fail. spelled_word (fail_text fail) Fail (fail_words fail) (fail_spelled fail)) s.fails in
    let poll_block = kind_within hook_text k 6 (λ answer. spelled_word (hook_text answer) Hook (poll_text answer) refl) s.polls in
    ap
    (λ r. leb r k
    && list_all (within k)
    (map conf_line s.conf
    ++
    (map interface_text s.ifaces
    ++ (map row_line rows ++ (map file_text s.files ++ (map fail_text s.fails ++ (map hook_text s.polls ++ lives_lines lives)))))))
    head_rank
    ∙ ap
    (λ b. b
    && list_all (within k)
    (map conf_line s.conf
    ++
    (map interface_text s.ifaces
    ++ (map row_line rows ++ (map file_text s.files ++ (map fail_text s.fails ++ (map hook_text s.polls ++ lives_lines lives)))))))
    (le-leb 0 k (omega arith))
    ∙ joined k (map conf_line s.conf) _ _ _ conf_block
    (joined k (map interface_text s.ifaces) _ _ _ iface_block
    (joined k (map row_line rows) _ _ _ row_block
    (joined k (map file_text s.files) _ _ _ file_block
    (joined k (map fail_text s.fails) _ _ _ fail_block
    (joined k (map hook_text s.polls) _ _ _ poll_block (lives_within k low lives s.lives lived))))))

-- ---- what a state tells of its lines

rows_told : (rows : List (List ℕ)) (held : List HostRow) → AreSpelled SpellsRow rows held → none_of rows ≡ none_of held
rows_told [] [] are = refl
rows_told [] (row ∷ held) are = absurd are
rows_told (text ∷ rows) [] are = absurd are
rows_told (text ∷ rows) (row ∷ held) are = refl

some_more : {X : Type 0} (xs : List X) (x : X) → none_of (xs ++ x ∷ []) ≡ false
some_more [] x = refl
some_more (y ∷ xs) x = refl

lives_told : (count : ℕ) (past : List LifeScript) (last : Option LifeRead) → FitsLast count past last → none_of (past ++ last_life last) ≡ not (is_some last)
lives_told count past None fits = ap (λ p. none_of (p ++ [])) fits
lives_told count past (Some read) fits = some_more past read.life

-- the lines are in order up to this kind, where nothing of a later one was read
told : (k : ℕ) (read : LinesRead) (lines : List Line) → leb 7 k ≡ false → AfterLines read lines
    → list_all (within k) lines
    ≡
    ((leb 1 k || none_of (conf_lines read.conf))
    &&
    ((leb 2 k || none_of read.ifaces)
    &&
    ((leb 3 k || none_of read.rows)
    &&
    ((leb 4 k || none_of read.files)
    && ((leb 5 k || none_of read.fails) && ((leb 6 k || none_of read.polls) && before_lives read))))))
told k read lines low after =
    ap (list_all (within k)) after.are ∙ in_order_is k after.rows after.lives (script_in read) after.lived low
    ∙ ap
    (λ b. (leb 1 k || none_of (conf_lines read.conf))
    &&
    ((leb 2 k || none_of read.ifaces)
    &&
    ((leb 3 k || b)
    &&
    ((leb 4 k || none_of read.files)
    && ((leb 5 k || none_of read.fails) && ((leb 6 k || none_of read.polls) && none_of (lives_in read)))))))
    (rows_told after.rows read.rows after.spelled)
    ∙ ap
    (λ b. (leb 1 k || none_of (conf_lines read.conf))
    &&
    ((leb 2 k || none_of read.ifaces)
    &&
    ((leb 3 k || none_of read.rows)
    && ((leb 4 k || none_of read.files) && ((leb 5 k || none_of read.fails) && ((leb 6 k || none_of read.polls) && b))))))
    (lives_told (length read.ifaces) read.past read.last after.sound.last)

-- ---- how many interfaces

abbrev is_interface : Line → Bool
is_interface line = eqb (rank_of (word_at line)) 2

kind_none : {X : Type 0} (f : X → Line) (n : ℕ) → eqb n 2 ≡ false → ((x : X) → rank_of (word_at (f x)) ≡ n) → (xs : List X)
    → filter is_interface (map f xs) ≡ []
kind_none f n other law [] = refl
kind_none f n other law (x ∷ xs) =
    ap (λ b. cond b (f x ∷ filter is_interface (map f xs)) (filter is_interface (map f xs))) (ap (λ r. eqb r 2) (law x) ∙ other) ∙ kind_none f n other law xs

ifaces_all : {X : Type 0} (f : X → Line) → ((x : X) → rank_of (word_at (f x)) ≡ 2) → (xs : List X) → filter is_interface (map f xs) ≡ map f xs
ifaces_all f law [] = refl
ifaces_all f law (x ∷ xs) =
    ap (λ b. cond b (f x ∷ filter is_interface (map f xs)) (filter is_interface (map f xs))) (ap (λ r. eqb r 2) (law x))
    ∙ ap (λ ls. f x ∷ ls) (ifaces_all f law xs)

both_none : (xs ys : List Line) → filter is_interface xs ≡ [] → filter is_interface ys ≡ [] → filter is_interface (xs ++ ys) ≡ []
both_none xs ys one other = filter-append is_interface xs ys ∙ ap (λ ls. ls ++ filter is_interface ys) one ∙ other

crash_none : (crash : Option CrashScript) → filter is_interface (crash_lines crash) ≡ []
crash_none None = refl
crash_none (Some crash) = ap (λ r. cond (eqb r 2) (crash_text crash ∷ []) []) (spelled_word (crash_text crash) Crash (crash_words crash) (crash_spelled crash))

turns_none : (lines : List Line) (turns : List Given) → AreSpelled SpellsGiven lines turns → filter is_interface lines ≡ []
turns_none [] [] spelled = refl
turns_none [] (given ∷ turns) spelled = absurd spelled
turns_none (line ∷ lines) [] spelled = absurd spelled
turns_none (line ∷ lines) (given ∷ turns) spelled =
    let spells = spelled.0 in
    ap (λ r. cond (eqb r 2) (line ∷ filter is_interface lines) (filter is_interface lines))
    (spelled_word line Turn (turn_words given spells.event) (turn_spelled line given spells))
    ∙ turns_none lines turns spelled.1

life_none : (lines : List Line) (life : LifeScript) → SpellsLife lines life → filter is_interface lines ≡ []
life_none lines life spells =
    let others = spells.turns ++ crash_lines life.crash in
    ap (filter is_interface) spells.are
    ∙ ap (λ r. cond (eqb r 2) (start_text life.begin ∷ filter is_interface others) (filter is_interface others)) (start_rank life)
    ∙ both_none spells.turns (crash_lines life.crash) (turns_none spells.turns life.turns spells.spelled) (crash_none life.crash)

lives_none : (lines : List (List Line)) (lives : List LifeScript) → AreSpelled SpellsLife lines lives → filter is_interface (lives_lines lines) ≡ []
lives_none [] [] lived = refl
lives_none [] (life ∷ lives) lived = absurd lived
lives_none (first ∷ lines) [] lived = absurd lived
lives_none (first ∷ lines) (life ∷ lives) lived = both_none first (lives_lines lines) (life_none first life lived.0) (lives_none lines lives lived.1)

counted : (rows : List (List ℕ)) (lives : List (List Line)) (s : ScriptLines) → AreSpelled SpellsLife lives s.lives
    → interfaces_in (script_lines rows lives s) ≡ length s.ifaces
counted rows lives s lived =
    let behind = map row_line rows ++ (map file_text s.files ++ (map fail_text s.fails ++ (map hook_text s.polls ++ lives_lines lives))) in
    let none = both_none (map row_line rows) _ (kind_none row_line 3 refl (λ text. spelled_word (row_line text) Row text refl) rows)
    (both_none (map file_text s.files) _ (kind_none file_text 4 refl (λ file. spelled_word (file_text file) File (file_words file) (file_spelled file)) s.files)
    (both_none (map fail_text s.fails) _ (kind_none fail_text 5 refl (λ fail. spelled_word (fail_text fail) Fail (fail_words fail) (fail_spelled fail)) s.fails)
    (both_none (map hook_text s.polls) _ (kind_none hook_text 6 refl (λ answer. spelled_word (hook_text answer) Hook (poll_text answer) refl) s.polls)
    (lives_none lives s.lives lived))))
    in
    let all : filter is_interface (map interface_text s.ifaces) ≡ map interface_text s.ifaces =
    ifaces_all interface_text (λ spec. spelled_word (interface_text spec) Interface (spec_text spec) (spec_spelled spec)) s.ifaces in
    let after_conf : filter is_interface (map interface_text s.ifaces ++ behind) ≡ map interface_text s.ifaces =
    filter-append is_interface (map interface_text s.ifaces) behind ∙ ap (λ ls. ls ++ filter is_interface behind) all
    ∙ ap (λ ls. map interface_text s.ifaces ++ ls) none ∙ append-nil (map interface_text s.ifaces) in
    let rest = map conf_line s.conf ++ (map interface_text s.ifaces ++ behind) in
    let whole_lines : filter is_interface rest ≡ map interface_text s.ifaces =
    filter-append is_interface (map conf_line s.conf) (map interface_text s.ifaces ++ behind)
    ∙ ap (λ ls. ls ++ filter is_interface (map interface_text s.ifaces ++ behind)) (kind_none conf_line 1 refl (λ text. ap rank_of (conf_word text)) s.conf)
    ∙ after_conf in
    ap (λ r. length (cond (eqb r 2) (head_line ∷ filter is_interface rest) (filter is_interface rest))) head_rank ∙ ap length whole_lines
    ∙ length-map s.ifaces interface_text

pub interfaces_told : (read : LinesRead) (lines : List Line) → AfterLines read lines → interfaces_in lines ≡ length read.ifaces
interfaces_told read lines after = ap interfaces_in after.are ∙ counted after.rows after.lives (script_in read) after.lived

-- ---- in a life: a script goes on with the word

begins_by : (lines : List Line) (word : Word) (said : List ℕ) → Completes SpellsRead (lines ++ (word_text word ++ 32 ∷ said) ∷ [])
    → Begins SpellsScript (lines_text lines ++ word_text word)
begins_by lines word said c =
    let line = word_text word ++ 32 ∷ said in
    record {
      value = c.value.script;
      lines = (lines ++ line ∷ []) ++ c.more;
      spells = c.spells.spells;
      more = 32 ∷ (said ++ 10 ∷ lines_text c.more);
      goes_on = text_more (lines ++ line ∷ []) c.more ∙ ap (λ t. t ++ lines_text c.more) (text_more lines (line ∷ [])) ∙ simp append_assoc;
    }

abbrev quiet_turn : Given
quiet_turn = record { wake = record { at = 0; salt = 0; event = Quiet }; bytes = [] }

quiet_fits : FitsGiven 64 quiet_turn
quiet_fits = record { at = omega arith; salt = omega arith; event = tt; bytes = refl }

abbrev quiet_words : List ℕ
quiet_words = turn_words quiet_turn (codes "quiet")

quiet_spelled : SpellsTurn quiet_words quiet_turn
quiet_spelled = record { event = codes "quiet"; spelled = refl; spells = refl; fits = quiet_fits }

abbrev last_crash : CrashScript
last_crash = record { calls = None; kind = Old }

start_begins : (read : LinesRead) (lines : List Line) → AfterLines read lines → may_come read Start ≡ true → IsInPlace lines Start
start_begins read lines after comes =
    begins_by lines Start (begin_words first_begin)
    (completed (with_start read first_begin) (lines ++ (word_text Start ++ 32 ∷ begin_words first_begin) ∷ [])
    (start_grows read lines first_begin after comes (first_fits (length read.ifaces))))

turn_begins : (read : LinesRead) (lines : List Line) → AfterLines read lines → may_come read Turn ≡ true → IsInPlace lines Turn
turn_begins read lines after comes =
    begins_by lines Turn quiet_words
    (completed (with_last read (with_turn quiet_turn)) (lines ++ (word_text Turn ++ 32 ∷ quiet_words) ∷ [])
    (turn_grows read lines quiet_words quiet_turn after comes quiet_spelled refl))

crash_begins : (read : LinesRead) (lines : List Line) → AfterLines read lines → may_come read Crash ≡ true → IsInPlace lines Crash
crash_begins read lines after comes =
    begins_by lines Crash (crash_words last_crash)
    (completed (with_last read (with_crash last_crash)) (lines ++ (word_text Crash ++ 32 ∷ crash_words last_crash) ∷ [])
    (crash_grows read lines last_crash after comes tt))

-- ---- in a life: no script goes on with the word

record Fronted (word line : List ℕ) : Type 0 where
  rest : List ℕ
  is : line ≡ word ++ rest

first_same : {x y : ℕ} {xs ys : List ℕ} → x ∷ xs ≡ y ∷ ys → (x ≡ y) × (xs ≡ ys)
first_same e = (cc, cc)

-- a text that begins with a word, and with a line, begins with the word in the line
fronted : (word line more tail : List ℕ) → Lacks 10 word → word ++ more ≡ line ++ 10 ∷ tail → Fronted word line
fronted [] line more tail free e = record { rest = line; is = refl }
fronted (w ∷ ws) [] more tail free e =
    let parts = and_parts (not (eqb w 10)) _ free in
    let same : w ≡ 10 = (first_same e).0 in
    let never : not (eqb 10 10) ≡ true = subst (λ b. not (eqb b 10) ≡ true) same parts.0 in cc
fronted (w ∷ ws) (c ∷ cs) more tail free e =
    let both = first_same e in
    let next = fronted ws cs more tail (and_parts (not (eqb w 10)) _ free).1 both.1 in
    record { rest = next.rest; is = ap (λ b. b ∷ cs) (sym both.0) ∙ ap (λ t. w ∷ t) next.is }

word_free : (word : Word) → Lacks 10 (word_text word)
word_free Head = refl
word_free Conf = refl
word_free Interface = refl
word_free Row = refl
word_free File = refl
word_free Fail = refl
word_free Hook = refl
word_free Start = refl
word_free Turn = refl
word_free Crash = refl

no_text : (word : Word) (more : List ℕ) → word_text word ++ more ≡ [] → ⊥
no_text Head more e = cc
no_text Conf more e = cc
no_text Interface more e = cc
no_text Row more e = cc
no_text File more e = cc
no_text Fail more e = cc
no_text Hook more e = cc
no_text Start more e = cc
no_text Turn more e = cc
no_text Crash more e = cc

comes_by : (read : LinesRead) (word : Word) (line : Line) (next : LinesRead) → Fronted (word_text word) line → step_after read line ≡ Some next
    → may_come read word ≡ true
comes_by read word line next front e =
    let is = taken_is read line next e in
    let same = word_begins word front.rest is.known (ap word_at (sym front.is) ∙ is.word) in
    subst (λ w. may_come read w ≡ true) same is.comes

went_on : (read : LinesRead) (word : Word) (more : List ℕ) (lines : List Line) (end : Option LinesRead) → word_text word ++ more ≡ lines_text lines
    → run step lines (Some read) ≡ Some end → may_come read word ≡ true
went_on read word more [] end e runs = absurd (no_text word more e)
went_on read word more (line ∷ lines) end e runs = by (step_after read line) refl runs
  where
    front : Fronted (word_text word) line
    front = fronted (word_text word) line more (lines_text lines) (word_free word) (e ∙ append_assoc line (10 ∷ []) (lines_text lines))

    by : (o : Option LinesRead) → step_after read line ≡ o → option_and_then (run step lines) (option_map Some o) ≡ Some end → may_come read word ≡ true
    by None is q = absurd (none-some end q)
    by (Some next) is q = comes_by read word line next front is

pub begun_comes : (read : LinesRead) (lines : List Line) (word : Word) → run step lines None ≡ Some (Some read)
    → Begins SpellsScript (lines_text lines ++ word_text word) → may_come read word ≡ true
begun_comes read lines word runs begins =
    let spells : SpellsRead (record { conf = flat_map ended begins.value.conf; script = begins.value }) begins.lines =
    record { spells = begins.spells; conf = refl } in
    let w = whole _ begins.lines spells in
    let on =
    goes_on lines begins.lines (word_text word ++ begins.more) (run_lines lines None (Some read) runs) (are _ begins.lines spells)
    (begins.goes_on ∙ append_assoc (lines_text lines) (word_text word) begins.more) in
    let later : run step on.more (Some read) ≡ Some w.state =
    sym (run_more step lines on.more None (Some read) runs) ∙ ap (λ ls. run step ls None) (sym on.whole) ∙ w.runs in
    went_on read word begins.more on.more w.state on.text later

-- ---- every word

pub in_place : (read : LinesRead) (lines : List Line) (word : Word) → AfterLines read lines → may_come read word ≡ true → IsInPlace lines word
in_place read lines Head after comes = cc
in_place read lines Conf after comes = told 1 read lines refl after ∙ comes
in_place read lines Interface after comes =
    let parts = and_parts _ (before_rows read) comes in
    let few : length read.ifaces < 64 = ltb-true _ _ parts.0 in
    (told 2 read lines refl after ∙ parts.1, omega (arith, few, interfaces_told read lines after))
in_place read lines Row after comes = told 3 read lines refl after ∙ comes
in_place read lines File after comes = told 4 read lines refl after ∙ comes
in_place read lines Fail after comes = told 5 read lines refl after ∙ comes
in_place read lines Hook after comes = told 6 read lines refl after ∙ comes
in_place read lines Start after comes = start_begins read lines after comes
in_place read lines Turn after comes = turn_begins read lines after comes
in_place read lines Crash after comes = crash_begins read lines after comes

pub place_comes : (read : LinesRead) (lines : List Line) (word : Word) → run step lines None ≡ Some (Some read) → AfterLines read lines → IsInPlace lines word
    → may_come read word ≡ true
place_comes read lines Head runs after place = absurd place
place_comes read lines Conf runs after place = sym (told 1 read lines refl after) ∙ place
place_comes read lines Interface runs after place =
    let few : length read.ifaces < 64 = let room = place.1 in omega (arith, room, interfaces_told read lines after) in
    and_from _ _ (lt-ltb _ _ few) (sym (told 2 read lines refl after) ∙ place.0)
place_comes read lines Row runs after place = sym (told 3 read lines refl after) ∙ place
place_comes read lines File runs after place = sym (told 4 read lines refl after) ∙ place
place_comes read lines Fail runs after place = sym (told 5 read lines refl after) ∙ place
place_comes read lines Hook runs after place = sym (told 6 read lines refl after) ∙ place
place_comes read lines Start runs after place = begun_comes read lines Start runs place
place_comes read lines Turn runs after place = begun_comes read lines Turn runs place
place_comes read lines Crash runs after place = begun_comes read lines Crash runs place
