-- The lines of schedules: what is read of them is spelled so, and what is spelled so is read.
use Rattle.std.proofs.Common.{◌≡◌, ℕ, ◌+◌, ◌≤◌, true, ◌&&◌, cond, List, [], ◌∷◌, ◌++◌, map, length, Option, Some, None, option_map, option_and_then, refl, sym, ap, ◌∙◌, subst, arith, codes, bytes_eq, append_assoc, append-nil}
use Rattle.std.specs.List.{AllByRecursion}
use Rattle.std.proofs.Math.Pow.{pow_mono}
use Rattle.std.proofs.lemmas.Bool.{and_parts}
use Rattle.std.proofs.lemmas.List.{length-append, map-append}
use Rattle.std.proofs.lemmas.Slice.Eq.{bytes_eq-Decides}
use Rattle.net_types.specs.declared.fault.BadText.{BadText}
use Rattle.net_types.specs.declared.interface.IfSpec.{IfSpec}
use Rattle.net_types.specs.Cutting.{after_word, guarded, strip_word}
use Rattle.net_types.specs.LineFormats.{Completes, LineLaws, WholeRun}
use Rattle.net_types.specs.LineReading.{run}
use Rattle.net_types.specs.Marks.{Lacks}
use Rattle.net_types.specs.TextLines.{Line, AreLines, Front, ended, lines_text}
use Rattle.net_types.proofs.AllLaws.{all_join}
use Rattle.net_types.proofs.LineSteps.{run_more}
use Rattle.net_types.proofs.MarkLaws.{lacks-append}
use Rattle.net_types.proofs.ReadsLaws.{some_same, mapped, guard_passed, word_reads}
use Rattle.world.specs.declared.wakes.Begin.{Begin}
use Rattle.script_model.specs.Lines.{interface_text, start_text}
use Rattle.script_model.specs.Scripts.{CountsFrom, FitInterfaces, Unlike}
use Rattle.row_texts.proofs.RowLaws.{by_cases}
use Rattle.replay_text.specs.Carriers.{begin_at}
use Rattle.replay_text.specs.LineReading.{spec_at}
use Rattle.replay_text.specs.NextLines.{fits_next}
use Rattle.replay_text.specs.NextWords.{none_of}
use Rattle.replay_text.proofs.CarrierLaws.{begin_words, FitsBegin, begin_reads, begin_spelled, begin_printable}
use Rattle.replay_text.proofs.Grown.{all_next, behind, line_more, pairs_front, pairs_none}
use Rattle.replay_text.proofs.LineLaws.{spec_text, FitsSpec, spec_reads, spec_spelled, spec_printable}
use Rattle.replay_text.proofs.Printables.{no_feed_in}
use Rattle.replay_text.proofs.TakenLines.{cond_is, lines_ended}
use Rattle.replay_text.proofs.TestLaws.{interfaces_sound, interfaces_whole}
use Rattle.lease_text.proofs.SpelledOnce.{no_bad_line, spelled_once}
use Rattle.lab_peer.specs.declared.pool.Pool.{Pool}
use Rattle.lab_schedule.specs.declared.event.LabEvent.{LabEvent}
use Rattle.lab_schedule.specs.LineReading.{event_at, is_on, lacks_feed, pool_at}
use Rattle.lab_schedule.specs.ScheduleReading.{Head, Reading, Nothing, Heading, Pooled, Begun, nothing_read, conf_more, iface_more, after_head, after_pool, after_start, step, given, AfterHead, AfterPool, After}
use Rattle.lab_schedule.specs.Schedules.{Schedule, head_line, conf_line, pool_text, event_text, heading, schedule_lines, FitsPool, FitsStart, FitsLabEvent, FitsSchedule, SpellsSchedule, AnyCause, SchedulesAreOne}
use Rattle.lab_schedule.proofs.EventLaws.{pool_reads, pool_spelled, pool_lacks, event_reads, event_lacks, on_sound, on_whole}

-- ---- a line more

head_after : AfterHead nothing_read (head_line ∷ [])
head_after = record { conf = []; configured = refl; each = tt; are = refl; fits = record { few = omega arith; counted = tt; unlike = pairs_none Unlike } }

no_ifaces : (specs : List IfSpec) → none_of specs ≡ true → specs ≡ []
no_ifaces [] e = refl
no_ifaces (spec ∷ specs) e = cc

conf_taken : (head next : Head) (lines : List Line) (text : List ℕ) → AfterHead head lines → conf_more head text ≡ Some next
    → AfterHead next (lines ++ (codes "c:" ++ text) ∷ [])
conf_taken head next lines text after e =
    let tests = cond_is (none_of head.ifaces && lacks_feed text) (Some (record head { conf = head.conf ++ ended text })) next e in
    let parts = and_parts (none_of head.ifaces) (lacks_feed text) tests.0 in
    let none : map interface_text head.ifaces ≡ [] = ap (map interface_text) (no_ifaces head.ifaces parts.0) in
    let after_all : AfterHead (record head { conf = head.conf ++ ended text }) (lines ++ conf_line text ∷ []) = record {
      conf = after.conf ++ text ∷ [];
      configured = ap (λ t. t ++ ended text) after.configured ∙ sym (lines_ended after.conf text);
      each = all_join (Lacks 10) after.conf (text ∷ []) after.each (parts.1, tt);
      are =
          ap (λ ls. ls ++ conf_line text ∷ []) after.are
          ∙ ap (λ ls. head_line ∷ ls) (line_more conf_line after.conf text (map interface_text head.ifaces) none);
      fits = after.fits;
    } in
    subst (λ h. AfterHead h (lines ++ conf_line text ∷ [])) (some_same tests.1) after_all

iface_taken : (head next : Head) (lines : List Line) (rest : List ℕ) → AfterHead head lines → iface_more head rest ≡ Some next
    → AfterHead next (lines ++ (codes "if " ++ rest) ∷ [])
iface_taken head next lines rest after e =
    let m = mapped (λ spec. record head { ifaces = head.ifaces ++ spec ∷ [] }) (guarded (fits_next head.ifaces) (spec_at rest)) next e in
    let g = guard_passed (fits_next head.ifaces) (spec_at rest) m.value m.was in
    let read = spec_reads.sound rest m.value g.0 in
    let spelled : codes "if " ++ rest ≡ interface_text m.value = ap (λ t. codes "if " ++ t) read.0 ∙ sym (spec_spelled m.value) in
    let before = interfaces_whole head.ifaces after.fits in
    let after_all : AfterHead (record head { ifaces = head.ifaces ++ m.value ∷ [] }) (lines ++ interface_text m.value ∷ []) = record {
      conf = after.conf;
      configured = after.configured;
      each = after.each;
      are = ap (λ ls. ls ++ interface_text m.value ∷ []) after.are
          ∙ ap (λ ls. head_line ∷ ls)
          (behind (map conf_line after.conf) (map interface_text head.ifaces) (map interface_text (head.ifaces ++ m.value ∷ [])) (interface_text m.value)
          (sym (map-append interface_text head.ifaces (m.value ∷ []))));
      fits =
          interfaces_sound (head.ifaces ++ m.value ∷ []) (record { each = all_join FitsSpec head.ifaces (m.value ∷ []) before.each (read.1, tt); test = g.1 });
    } in
    subst (λ line. AfterHead next (lines ++ line ∷ [])) (sym spelled) (subst (λ h. AfterHead h (lines ++ interface_text m.value ∷ [])) m.gives after_all)

-- a state that comes of a value
made_of : {A : Type 0} (make : A → Reading) (o : Option A) (next : Reading) (lines : List Line) → option_map make o ≡ Some next
    → ((a : A) → o ≡ Some a → After (make a) lines) → After next lines
made_of make o next lines e after = let m = mapped make o next e in subst (λ s. After s lines) m.gives (after m.value m.was)

worded : (next : Reading) (lines : List Line) (line other : Line) → line ≡ other → After next (lines ++ other ∷ []) → After next (lines ++ line ∷ [])
worded next lines line other same after = subst (λ l. After next (lines ++ l ∷ [])) (sym same) after

pool_taken : (head : Head) (pool : Pool) (lines : List Line) (rest : List ℕ) → AfterHead head lines → pool_at rest ≡ Some pool
    → AfterPool head pool (lines ++ (codes "pool " ++ rest) ∷ [])
pool_taken head pool lines rest after e =
    let read = pool_reads.sound rest pool e in
    let spelled : codes "pool " ++ rest ≡ pool_text pool = ap (λ t. codes "pool " ++ t) read.0 ∙ sym (pool_spelled pool) in
    record { before = lines; told = after; are = ap (λ l. lines ++ l ∷ []) spelled; fits = read.1 }

head_taken : (head : Head) (next : Reading) (lines : List Line) (line : Line) → AfterHead head lines → after_head head line ≡ Some next
    → After next (lines ++ line ∷ [])
unfolding after_head
head_taken head next lines line after e =
    by_cases (codes "c:") line (λ text. option_map Heading (conf_more head text)) _ next e
    (λ text same q. worded next lines line _ same (made_of Heading (conf_more head text) next _ q (λ h was. conf_taken head h lines text after was)))
    (λ q. by_cases (codes "if ") line (λ rest. option_map Heading (iface_more head rest)) _ next q
    (λ rest same r. worded next lines line _ same (made_of Heading (iface_more head rest) next _ r (λ h was. iface_taken head h lines rest after was)))
    (λ r. by_cases (codes "pool ") line (λ rest. option_map (Pooled head) (pool_at rest)) None next r
    (λ rest same p. worded next lines line _ same (made_of (Pooled head) (pool_at rest) next _ p (λ pool was. pool_taken head pool lines rest after was)))
    (λ none. cc)))

start_fits : (count : ℕ) (begin : Begin) → FitsBegin count begin → FitsStart count begin
start_fits count begin fits = record { at = fits.at; salt = fits.salt; up = fits.up }

abbrev pub begun : Head → Pool → Begin → Schedule
begun head pool begin = record { conf = head.conf; ifaces = head.ifaces; pool = pool; begin = begin; events = [] }

start_taken : (head : Head) (pool : Pool) (next : Reading) (lines : List Line) (line : Line) → AfterPool head pool lines → after_pool head pool line ≡ Some next
    → After next (lines ++ line ∷ [])
unfolding after_pool
start_taken head pool next lines line after e =
    let before = after.told in
    let few = before.fits.few in
    made_of (λ begin. Begun (begun head pool begin)) (after_word (codes "start ") (begin_at (length head.ifaces)) line) next (lines ++ line ∷ []) e
    (λ begin was.
    let read = (word_reads (codes "start ") (begin_reads (length head.ifaces) few)).sound line begin was in
    record {
      conf = before.conf;
      configured = before.configured;
      each = before.each;
      are =
          ap (λ l. lines ++ l ∷ []) (read.0 ∙ sym (begin_spelled begin))
          ∙ ap (λ ls. ls ++ start_text begin ∷ []) (after.are ∙ ap (λ ls. ls ++ pool_text pool ∷ []) before.are)
          ∙ append_assoc (heading before.conf head.ifaces) (pool_text pool ∷ []) (start_text begin ∷ []);
      fits = record { ifaces = before.fits; pool = after.fits; begin = start_fits (length head.ifaces) begin read.1; events = tt };
    })

event_taken : (schedule : Schedule) (next : Reading) (lines : List Line) (line : Line) → SpellsSchedule schedule lines → after_start schedule line ≡ Some next
    → After next (lines ++ line ∷ [])
unfolding after_start
event_taken schedule next lines line spells e =
    let fits = spells.fits in
    made_of (λ event. Begun (record schedule { events = schedule.events ++ event ∷ [] })) (guarded (is_on (length schedule.ifaces)) (event_at line)) next
    (lines ++ line ∷ []) e
    (λ event was.
    let g = guard_passed (is_on (length schedule.ifaces)) (event_at line) event was in
    let read = event_reads.sound line event g.0 in
    let front : List Line = heading spells.conf schedule.ifaces in
    record {
      conf = spells.conf;
      configured = spells.configured;
      each = spells.each;
      are = ap (λ l. lines ++ l ∷ []) read.0 ∙ ap (λ ls. ls ++ event_text event ∷ []) spells.are
          ∙ behind front (pool_text schedule.pool ∷ start_text schedule.begin ∷ map event_text schedule.events)
          (pool_text schedule.pool ∷ start_text schedule.begin ∷ map event_text (schedule.events ++ event ∷ [])) (event_text event)
          (ap (λ ls. pool_text schedule.pool ∷ start_text schedule.begin ∷ ls) (sym (map-append event_text schedule.events (event ∷ []))));
      fits = record {
        ifaces = fits.ifaces;
        pool = fits.pool;
        begin = fits.begin;
        events =
            all_join (FitsLabEvent (length schedule.ifaces)) schedule.events (event ∷ []) fits.events (on_sound (length schedule.ifaces) event read.1 g.1, tt);
      };
    })

taken : (state next : Reading) (lines : List Line) (line : Line) → After state lines → step state line ≡ Some next → After next (lines ++ line ∷ [])
taken Nothing next lines line after e =
    let tests = cond_is (bytes_eq line head_line) (Some (Heading nothing_read)) next e in
    let same : line ≡ head_line = (bytes_eq-Decides line head_line).0 tests.0 in
    let are : lines ++ line ∷ [] ≡ head_line ∷ [] = ap (λ ls. ls ++ line ∷ []) after ∙ ap (λ l. l ∷ []) same in
    subst (λ s. After s (lines ++ line ∷ [])) (some_same tests.1) (subst (AfterHead nothing_read) (sym are) head_after)
taken (Heading head) next lines line after e = head_taken head next lines line after e
taken (Pooled head pool) next lines line after e = start_taken head pool next lines line after e
taken (Begun schedule) next lines line after e = event_taken schedule next lines line after e

-- ---- lines that end a schedule

abbrev first_pool : Pool
first_pool = record { low = record { number = 167772162 }; high = record { number = 167772162 }; lease = 1 }

first_pool_fits : FitsPool first_pool
first_pool_fits = record { low = omega arith; high = omega arith; lease = omega arith; valid = refl }

abbrev first_begin : Begin
first_begin = record { at = 0; salt = 0; up = 0 }

first_begin_fits : (count : ℕ) → FitsStart count first_begin
first_begin_fits count = record { at = omega arith; salt = omega arith; up = omega (arith, pow_mono {i = 0} {j = count} (omega arith)) }

pool_completes : (head : Head) (pool : Pool) (lines : List Line) → AfterPool head pool lines → Completes SpellsSchedule lines
pool_completes head pool lines after =
    let before = after.told in
    record {
      value = begun head pool first_begin;
      more = start_text first_begin ∷ [];
      spells = record {
        conf = before.conf;
        configured = before.configured;
        each = before.each;
        are = ap (λ ls. ls ++ start_text first_begin ∷ []) (after.are ∙ ap (λ ls. ls ++ pool_text pool ∷ []) before.are)
            ∙ append_assoc (heading before.conf head.ifaces) (pool_text pool ∷ []) (start_text first_begin ∷ []);
        fits = record { ifaces = before.fits; pool = after.fits; begin = first_begin_fits (length head.ifaces); events = tt };
      };
    }

head_completes : (head : Head) (lines : List Line) → AfterHead head lines → Completes SpellsSchedule lines
head_completes head lines after =
    record {
      value = begun head first_pool first_begin;
      more = pool_text first_pool ∷ start_text first_begin ∷ [];
      spells = record {
        conf = after.conf;
        configured = after.configured;
        each = after.each;
        are = ap (λ ls. ls ++ pool_text first_pool ∷ start_text first_begin ∷ []) after.are;
        fits = record { ifaces = after.fits; pool = first_pool_fits; begin = first_begin_fits (length head.ifaces); events = tt };
      };
    }

completed : (state : Reading) (lines : List Line) → After state lines → Completes SpellsSchedule lines
completed Nothing lines after =
    let c = head_completes nothing_read (head_line ∷ []) head_after in
    record { value = c.value; more = head_line ∷ c.more; spells = subst (λ ls. SpellsSchedule c.value (ls ++ head_line ∷ c.more)) (sym after) c.spells }
completed (Heading head) lines after = head_completes head lines after
completed (Pooled head pool) lines after = pool_completes head pool lines after
completed (Begun schedule) lines after = record { value = schedule; more = []; spells = subst (SpellsSchedule schedule) (sym (append-nil lines)) after }

ends : (state : Reading) (lines : List Line) (value : Schedule) → After state lines → given state ≡ Some value → SpellsSchedule value lines
ends Nothing lines value after e = cc
ends (Heading head) lines value after e = cc
ends (Pooled head pool) lines value after e = cc
ends (Begun schedule) lines value after e = subst (λ s. SpellsSchedule s lines) (some_same e) after

-- ---- all lines of a schedule are taken

blocks : {X : Type 0} (line_of : X → Line) (put : List X → Reading) (Fit : List X → Type 0)
    → ((done : List X) (x : X) (later : List X) → Fit (done ++ x ∷ later) → step (put done) (line_of x) ≡ Some (put (done ++ x ∷ [])))
    → (done xs : List X) → Fit (done ++ xs) → run step (map line_of xs) (put done) ≡ Some (put (done ++ xs))
blocks line_of put Fit law done [] fit = ap (λ d. Some (put d)) (sym (append-nil done))
blocks line_of put Fit law done (x ∷ xs) fit =
    ap (option_and_then (run step (map line_of xs))) (law done x xs fit)
    ∙ blocks line_of put Fit law (done ++ x ∷ []) xs (subst Fit (sym (append_assoc done (x ∷ []) xs)) fit)
    ∙ ap (λ d. Some (put d)) (append_assoc done (x ∷ []) xs)

follow : (lines more : List Line) (s t : Reading) (end : Option Reading) → run step lines s ≡ Some t → run step more t ≡ end → run step (lines ++ more) s ≡ end
follow lines more s t end first others = run_more step lines more s t first ∙ others

abbrev head_at : List ℕ → List IfSpec → Head
head_at conf ifaces = record { conf = conf; ifaces = ifaces }

conf_step : (done : List Line) (text : Line) (later : List Line) → AllByRecursion (Lacks 10) (done ++ text ∷ later)
    → step (Heading (head_at (lines_text done) [])) (conf_line text) ≡ Some (Heading (head_at (lines_text (done ++ text ∷ [])) []))
unfolding after_head strip_word
conf_step done text later each =
    let free : lacks_feed text ≡ true = all_next (Lacks 10) done text later each in
    ap (λ b. option_map Heading (cond b (Some (head_at (lines_text done ++ ended text) [])) None)) free
    ∙ ap (λ c. Some (Heading (head_at c []))) (sym (lines_ended done text))

counted_front : (index : ℕ) (xs ys : List IfSpec) → CountsFrom index (xs ++ ys) → CountsFrom index xs
counted_front index [] ys counts = tt
counted_front index (x ∷ xs) ys counts = (counts.0, counts.1, counts.2, counted_front (index + 1) xs ys counts.3)

ifaces_front : (xs ys : List IfSpec) → FitInterfaces (xs ++ ys) → FitInterfaces xs
ifaces_front xs ys fit =
    let few = fit.few in
    record { few = omega (arith, few, length-append xs ys); counted = counted_front 1 xs ys fit.counted; unlike = pairs_front Unlike xs ys fit.unlike }

iface_step : (conf : List ℕ) (done : List IfSpec) (spec : IfSpec) (later : List IfSpec) → FitInterfaces (done ++ spec ∷ later)
    → step (Heading (head_at conf done)) (interface_text spec) ≡ Some (Heading (head_at conf (done ++ spec ∷ [])))
unfolding after_head strip_word
iface_step conf done spec later fit =
    let front = ifaces_front (done ++ spec ∷ []) later (subst FitInterfaces (sym (append_assoc done (spec ∷ []) later)) fit) in
    let are = interfaces_whole (done ++ spec ∷ []) front in
    let fits : FitsSpec spec = all_next FitsSpec done spec [] are.each in
    ap (after_head (head_at conf done)) (spec_spelled spec)
    ∙ ap (λ o. option_map Heading (option_map (λ s. head_at conf (done ++ s ∷ [])) (guarded (fits_next done) o))) (spec_reads.whole spec fits)
    ∙ ap (λ b. option_map Heading (option_map (λ s. head_at conf (done ++ s ∷ [])) (cond b (Some spec) None))) are.test

pool_step : (head : Head) (pool : Pool) → FitsPool pool → step (Heading head) (pool_text pool) ≡ Some (Pooled head pool)
unfolding after_head strip_word
pool_step head pool fits = ap (after_head head) (pool_spelled pool) ∙ ap (option_map (Pooled head)) (pool_reads.whole pool fits)

start_step : (head : Head) (pool : Pool) (begin : Begin) → length head.ifaces ≤ 64 → FitsStart (length head.ifaces) begin
    → step (Pooled head pool) (start_text begin) ≡ Some (Begun (begun head pool begin))
unfolding after_pool
start_step head pool begin few fits =
    ap (after_pool head pool) (begin_spelled begin)
    ∙ ap (option_map (λ b. Begun (begun head pool b)))
    ((word_reads (codes "start ") (begin_reads (length head.ifaces) few)).whole begin (record { at = fits.at; salt = fits.salt; up = fits.up }))

event_step : (first : Schedule) (few : length first.ifaces ≤ 64) (done : List LabEvent) (event : LabEvent) (later : List LabEvent)
    → AllByRecursion (FitsLabEvent (length first.ifaces)) (done ++ event ∷ later)
    → step (Begun (record first { events = done })) (event_text event) ≡ Some (Begun (record first { events = done ++ event ∷ [] }))
unfolding after_start
event_step first few done event later each =
    let on = on_whole (length first.ifaces) event few (all_next (FitsLabEvent (length first.ifaces)) done event later each) in
    ap (λ o. option_map (λ e. Begun (record first { events = done ++ e ∷ [] })) (guarded (is_on (length first.ifaces)) o)) (event_reads.whole event on.0)
    ∙ ap (λ b. option_map (λ e. Begun (record first { events = done ++ e ∷ [] })) (cond b (Some event) None)) on.1

whole_run : (conf : List Line) (schedule : Schedule) → schedule.conf ≡ lines_text conf → AllByRecursion (Lacks 10) conf → FitsSchedule schedule
    → run step (schedule_lines conf schedule) Nothing ≡ Some (Begun schedule)
whole_run conf schedule configured each fits =
    let few = fits.ifaces.few in
    let head : Head = head_at (lines_text conf) schedule.ifaces in
    let confs : run step (map conf_line conf) (Heading nothing_read) ≡ Some (Heading (head_at (lines_text conf) [])) =
    blocks conf_line (λ done. Heading (head_at (lines_text done) [])) (AllByRecursion (Lacks 10)) conf_step [] conf each in
    let ifaces : run step (map interface_text schedule.ifaces) (Heading (head_at (lines_text conf) [])) ≡ Some (Heading head) =
    blocks interface_text (λ done. Heading (head_at (lines_text conf) done)) FitInterfaces (iface_step (lines_text conf)) [] schedule.ifaces fits.ifaces in
    let heads_run : run step (heading conf schedule.ifaces) Nothing ≡ Some (Heading head) =
    follow (map conf_line conf) (map interface_text schedule.ifaces) (Heading nothing_read) (Heading (head_at (lines_text conf) []))
    (Some (Heading head)) confs ifaces in
    let first : Schedule = begun head schedule.pool schedule.begin in
    let events : run step (map event_text schedule.events) (Begun first) ≡ Some (Begun (record first { events = schedule.events })) =
    blocks event_text (λ done. Begun (record first { events = done })) (AllByRecursion (FitsLabEvent (length schedule.ifaces)))
    (event_step first few) [] schedule.events fits.events in
    follow (heading conf schedule.ifaces) (pool_text schedule.pool ∷ start_text schedule.begin ∷ map event_text schedule.events) Nothing (Heading head)
    (Some (Begun schedule)) heads_run
    (ap (option_and_then (run step (start_text schedule.begin ∷ map event_text schedule.events))) (pool_step head schedule.pool fits.pool)
    ∙ ap (option_and_then (run step (map event_text schedule.events))) (start_step head schedule.pool schedule.begin few fits.begin)
    ∙ events ∙ ap (λ c. Some (Begun (record schedule { conf = c }))) (sym configured))

whole : (value : Schedule) (lines : List Line) → SpellsSchedule value lines → WholeRun step given Nothing lines value
whole value lines spells =
    record {
      state = Begun value;
      runs = ap (λ ls. run step ls Nothing) spells.are ∙ whole_run spells.conf value spells.configured spells.each spells.fits;
      gives = refl;
    }

-- ---- no line has a line feed

mapped_all : {X : Type 0} (P : X → Type 0) (f : X → Line) → ((x : X) → P x → Lacks 10 (f x)) → (xs : List X) → AllByRecursion P xs → AreLines (map f xs)
mapped_all P f law [] all = tt
mapped_all P f law (x ∷ xs) all = (law x all.0, mapped_all P f law xs all.1)

conf_lacks : (text : Line) → Lacks 10 text → Lacks 10 (conf_line text)
conf_lacks text free = lacks-append 10 (codes "c:") text refl free

spec_lacks : (spec : IfSpec) → FitsSpec spec → Lacks 10 (interface_text spec)
spec_lacks spec fits =
    subst (Lacks 10) (sym (spec_spelled spec)) (lacks-append 10 (codes "if ") (spec_text spec) refl (no_feed_in (spec_text spec) (spec_printable spec fits)))

start_lacks : (count : ℕ) (begin : Begin) → count ≤ 64 → FitsStart count begin → Lacks 10 (start_text begin)
start_lacks count begin few fits =
    subst (Lacks 10) (sym (begin_spelled begin))
    (lacks-append 10 (codes "start ") (begin_words begin) refl
    (no_feed_in (begin_words begin) (begin_printable count begin few (record { at = fits.at; salt = fits.salt; up = fits.up }))))

are_lines : (value : Schedule) (lines : List Line) → SpellsSchedule value lines → AreLines lines
are_lines value lines spells =
    let fits = spells.fits in
    let few = fits.ifaces.few in
    let are = interfaces_whole value.ifaces fits.ifaces in
    subst AreLines (sym spells.are)
    (all_join (Lacks 10) (heading spells.conf value.ifaces) _ (
      refl,
      all_join (Lacks 10) (map conf_line spells.conf) (map interface_text value.ifaces) (mapped_all (Lacks 10) conf_line conf_lacks spells.conf spells.each)
          (mapped_all FitsSpec interface_text spec_lacks value.ifaces are.each),
    ) (
      subst (Lacks 10) (sym (pool_spelled value.pool)) (pool_lacks value.pool fits.pool),
      (
        start_lacks (length value.ifaces) value.begin few fits.begin,
        mapped_all (FitsLabEvent (length value.ifaces)) event_text
            (λ event on. event_lacks event (on_whole (length value.ifaces) event few on).0) value.events fits.events,
      ),
    ))

-- ---- the laws

pub schedule_laws : (cause_of : Reading → Front → BadText) → LineLaws SpellsSchedule AnyCause step given cause_of After Nothing
schedule_laws cause_of = record {
  begins = refl;
  takes = taken;
  completes = completed;
  ends = ends;
  whole = whole;
  are = are_lines;
  tells = λ reading lines front before stops. tt;
}

abbrev no_cause : Reading → Front → BadText
no_cause reading front = record {}

pub schedules_one : SchedulesAreOne
schedules_one = record {
  one = spelled_once (schedule_laws no_cause);
  none_bad = λ text schedule line spells bad. no_bad_line text schedule line (record {}) spells bad;
}
