-- The lines after the head: what is read is spelled so, and what is spelled so is read.
use Rattle.std.proofs.Common.{◌≡◌, ℕ, ◌^◌, ◌<◌, Bool, true, cond, List, [], ◌∷◌, ◌++◌, Option, Some, None, option_map, option_and_then, refl, sym, ap, ◌∙◌, subst, arith, codes, append_assoc}
use Rattle.std.specs.Fmt.{decimal}
use Rattle.std.specs.List.{AllByRecursion}
use Rattle.std.proofs.lemmas.Bool.{and_parts, and_from, leb-true, le-leb, lt-ltb, ltb-true}
use Rattle.net_types.specs.declared.address.Net.{Net}
use Rattle.net_types.specs.declared.address.Net.TheVariants.{V4, V6}
use Rattle.net_types.specs.AddressText.{FitsNet}
use Rattle.net_types.specs.declared.interface.IfIndex.{IfIndex}
use Rattle.net_types.specs.declared.interface.IfSpec.{IfSpec}
use Rattle.net_types.specs.Cutting.{by_word, guarded, pair_at, strip_word}
use Rattle.net_types.specs.Marks.{Lacks}
use Rattle.net_types.proofs.ReadsLaws.{guard_passed, mapped, passed, some_same, step, strip_sound}
use Rattle.world.specs.declared.rows.HostRow.{HostRow}
use Rattle.world.specs.declared.rows.HostRow.TheVariants.{Addr, Route}
use Rattle.world.specs.declared.wakes.Begin.{Begin}
use Rattle.world.specs.Rows.{IsNet}
use Rattle.script_model.specs.Lines.{Line, interface_text, line_words, outcome_text, start_text}
use Rattle.script_model.specs.Lines as Model
use Rattle.row_texts.specs.RowReading.{row_at}
use Rattle.row_texts.proofs.RowLaws.{IsSpelledRow as IsRowOf, row_finds}
use Rattle.row_texts.proofs.SpellingLaws.{Finds, OneText, Parted, one_text, pair_finds}
use Rattle.script_lines.specs.Carriers.{begin_at}
use Rattle.script_lines.specs.LineReading.{spec_at}
use Rattle.script_lines.specs.TurnReading.{Came, moment_at, salt_at}
use Rattle.script_lines.proofs.CarrierLaws.{FitsBegin, begin_reads, begin_spelled}
use Rattle.script_lines.proofs.LineLaws.{FitsSpec, moment_lacks, moment_reads, salt_lacks, salt_reads, spec_reads, spec_spelled}
use Rattle.transcript_text.specs.FieldForms.{split_at_last}
use Rattle.transcript_text.specs.LineFields.{outcome_field}
use Rattle.transcript_text.specs.Fits.{FitsLine}
use Rattle.transcript_text.specs.LineShapes as shapes
use Rattle.transcript_text.specs.LineShapes.{line_at as printed_at}
use Rattle.transcript_text.specs.Shapes.{Shape}
use Rattle.transcript_lines.specs.declared.kinds.Kind.{Kind}
use Rattle.transcript_lines.specs.Bounds.{FitsTold, is_told}
use Rattle.transcript_lines.specs.LineKinds.{kind_among, kind_at, words}
use Rattle.transcript_lines.specs.LineReading.{added_at, as_printed, bounded, changed_at, deleted_at, held, hold_at, line_at, read_as}
use Rattle.transcript_lines.specs.LineSpellings.{IsTold, LinesAreRead, SpellsLine}
use Rattle.transcript_lines.specs.TurnFields.{came_at, turn_at}
use Rattle.transcript_lines.proofs.EventLaws.{IsCame, Printed, came_finds}
use Rattle.transcript_lines.proofs.LastLaws.{last_sound, last_whole, outcome_lacks, outcome_sound, outcome_whole}

-- ---- what is read is spelled so

-- after a word
abbrev IsSound : List ℕ → (List ℕ → Option Line) → Type 0
IsSound word read = (rest : List ℕ) (line : Line) → read rest ≡ Some line → IsTold (word ++ rest) line

by_kinds : (rows : List (Kind × List ℕ)) → AllByRecursion (λ row. IsSound row.1 (read_as row.0)) rows
    → (text : List ℕ) (line : Line) → option_and_then (λ p. read_as p.0 p.1) (kind_among rows text) ≡ Some line → IsTold text line
by_kinds [] each text line e = cc
by_kinds (row ∷ rows) each text line e = of_word (by_kinds rows each.1 text line) (strip_word row.1 text) refl e
  where
    of_word : (option_and_then (λ p. read_as p.0 p.1) (kind_among rows text) ≡ Some line → IsTold text line) → (o : Option (List ℕ)) → strip_word row.1 text ≡ o
        → option_and_then (λ p. read_as p.0 p.1) (by_word o (λ rest. Some (row.0, rest)) (kind_among rows text)) ≡ Some line → IsTold text line
    of_word later (Some rest) was q = subst (λ t. IsTold t line) (sym (strip_sound row.1 text rest was)) (each.0 rest line q)
    of_word later None was q = later q

printed_sound : {X : Type 0} (shape : Shape Line X) → Printed → ((rest : List ℕ) → printed_at (shape.word ++ rest) ≡ as_printed shape rest)
    → ((x : X) (text : List ℕ) → text ≡ line_words (shape.make x) → SpellsLine text (shape.make x)) → ((x : X) → is_told (shape.make x) ≡ true)
    → IsSound shape.word (as_printed shape)
printed_sound shape law same spells told rest line e =
    let m = mapped shape.make (shape.fields.at rest) line e in
    let s = law.sound (shape.word ++ rest) (shape.make m.value) (same rest ∙ e ∙ ap (λ l. Some l) (sym m.gives)) in
    subst (IsTold (shape.word ++ rest)) m.gives (record { spells = spells m.value (shape.word ++ rest) s.0; fits = record { fits = s.1; told = told m.value } })

bounded_sound : {X : Type 0} (shape : Shape Line X) → Printed → ((rest : List ℕ) → printed_at (shape.word ++ rest) ≡ as_printed shape rest)
    → ((x : X) (text : List ℕ) → text ≡ line_words (shape.make x) → SpellsLine text (shape.make x)) → IsSound shape.word (bounded shape)
bounded_sound shape law same spells rest line e =
    let g = guard_passed is_told (as_printed shape rest) line e in
    let m = mapped shape.make (shape.fields.at rest) line g.0 in
    let s = law.sound (shape.word ++ rest) (shape.make m.value) (same rest ∙ g.0 ∙ ap (λ l. Some l) (sym m.gives)) in
    subst (IsTold (shape.word ++ rest)) m.gives (record {
      spells = spells m.value (shape.word ++ rest) s.0;
      fits = record { fits = s.1; told = ap is_told m.gives ∙ g.1 };
    })

-- ---- an interface and a start

interface_sound : IsSound (codes "if ") (λ rest. option_map Model.Interface (spec_at rest))
unfolding line_words
interface_sound rest line e =
    let m = mapped Model.Interface (spec_at rest) line e in
    let s = spec_reads.sound rest m.value m.was in
    let low = s.1.index.0 in
    let high = s.1.index.1 in
    subst (IsTold (codes "if " ++ rest)) m.gives (record {
      spells = ap (λ t. codes "if " ++ t) s.0 ∙ sym (spec_spelled m.value);
      fits =
          record {
            fits = (omega (arith, high), s.1.name, s.1.mac);
            told = and_from _ _ (le-leb 1 m.value.index.number low) (le-leb m.value.index.number 64 high);
          };
    })

start_sound : IsSound (codes "start ") (λ rest. option_map Model.Start (begin_at 64 rest))
unfolding line_words
start_sound rest line e =
    let m = mapped Model.Start (begin_at 64 rest) line e in
    let s = (begin_reads 64 (omega arith)).sound rest m.value m.was in
    let at = s.1.at in
    subst (IsTold (codes "start " ++ rest)) m.gives (record {
      spells = ap (λ t. codes "start " ++ t) s.0 ∙ sym (begin_spelled m.value);
      fits = record { fits = (omega (arith, at), s.1.salt, s.1.up); told = lt-ltb m.value.at (10 ^ 15) at };
    })

-- ---- a turn

abbrev Turned : Type 0
Turned = ℕ × (ℕ × Came)

abbrev SpellsMoment : List ℕ → ℕ → Type 0
SpellsMoment = OneText decimal (λ n. n < 10 ^ 15)

abbrev SpellsSalt : List ℕ → ℕ → Type 0
SpellsSalt = OneText decimal (λ n. n < 2 ^ 64)

abbrev TurnWords : List ℕ → Turned → Type 0
TurnWords = Parted 32 SpellsMoment (Parted 32 SpellsSalt IsCame)

turn_finds : Printed → Finds TurnWords (pair_at 32 moment_at (pair_at 32 salt_at came_at))
turn_finds law =
    pair_finds 32 (one_text moment_reads)
    (pair_finds 32 (one_text salt_reads) (came_finds law) (λ text n spells. subst (Lacks 32) (sym spells.0) (salt_lacks n spells.1)))
    (λ text n spells. subst (Lacks 32) (sym spells.0) (moment_lacks n spells.1))

turn_grouped : (at salt event : List ℕ) → codes "turn " ++ at ++ codes " " ++ salt ++ codes " " ++ event ≡ codes "turn " ++ (at ++ 32 ∷ (salt ++ 32 ∷ event))
turn_grouped at salt event = simp append_assoc

abbrev turn_line : Turned → Line
turn_line p = Model.Turn p.0 p.1.0 p.1.1.0 p.1.1.1

turn_sound : Printed → IsSound (codes "turn ") turn_at
unfolding turn_at
turn_sound law rest line e =
    let m = mapped turn_line (pair_at 32 moment_at (pair_at 32 salt_at came_at) rest) line e in
    let f = (turn_finds law).sound rest m.value m.was in
    let g = f.second in
    let at = f.first.1 in
    let spelled : rest ≡ decimal m.value.0 ++ 32 ∷ (decimal m.value.1.0 ++ 32 ∷ g.back) =
    f.spelled ∙ ap (λ t. t ++ 32 ∷ f.back) f.first.0 ∙ ap (λ b. decimal m.value.0 ++ 32 ∷ b) (g.spelled ∙ ap (λ t. t ++ 32 ∷ g.back) g.first.0) in
    subst (IsTold (codes "turn " ++ rest)) m.gives (record {
      spells = record {
        event = g.back;
        spelled = ap (λ r. codes "turn " ++ r) spelled ∙ sym (turn_grouped (decimal m.value.0) (decimal m.value.1.0) g.back);
        spells = g.second.0;
      };
      fits = record { fits = (omega (arith, at), g.first.1, g.second.1); told = lt-ltb m.value.0 (10 ^ 15) at };
    })

-- ---- rows

row_sound : IsSound (codes "row ") (λ rest. option_map Model.Row (row_at rest))
row_sound rest line e =
    let m = mapped Model.Row (row_at rest) line e in
    let s = row_finds.sound rest m.value m.was in
    subst (IsTold (codes "row " ++ rest)) m.gives (record {
      spells = record { words = rest; spelled = refl; spells = s.0 };
      fits = record { fits = s.1; told = refl };
    })

-- a row, and whether the call was done
record SpellsChanged (text : List ℕ) (p : HostRow × Bool) : Type 0 where
  pub words : List ℕ
  pub spelled : text ≡ words ++ 32 ∷ outcome_text p.1
  pub is_row : IsRowOf words p.0

changed_sound : (rest : List ℕ) (p : HostRow × Bool) → changed_at rest ≡ Some p → SpellsChanged rest p
changed_sound rest p e =
    let cut = passed (split_at_last 32 rest) _ p e in
    let first = passed (row_at cut.value.0) _ p cut.gives in
    let second = passed (outcome_field.at cut.value.1) _ p first.gives in
    let one : first.value ≡ p.0 = ap (λ q. q.0) (some_same second.gives) in
    let two : second.value ≡ p.1 = ap (λ q. q.1) (some_same second.gives) in
    record {
      words = cut.value.0;
      spelled = last_sound 32 rest cut.value.0 cut.value.1 cut.was
          ∙ ap (λ t. cut.value.0 ++ 32 ∷ t) (outcome_sound cut.value.1 second.value second.was ∙ ap outcome_text two);
      is_row = subst (IsRowOf cut.value.0) one (row_finds.sound cut.value.0 first.value first.was);
    }

change_grouped : (word row outcome : List ℕ) → word ++ row ++ codes " " ++ outcome ≡ word ++ (row ++ 32 ∷ outcome)
change_grouped word row outcome = simp append_assoc

deleted_sound : IsSound (codes "host del ") deleted_at
deleted_sound rest line e =
    let m = mapped (λ (p : HostRow × Bool). Model.HostDel p.0 p.1) (changed_at rest) line e in
    let s = changed_sound rest m.value m.was in
    subst (IsTold (codes "host del " ++ rest)) m.gives (record {
      spells = record {
        words = s.words;
        spelled = ap (λ t. codes "host del " ++ t) s.spelled ∙ sym (change_grouped (codes "host del ") s.words (outcome_text m.value.1));
        spells = s.is_row.0;
      };
      fits = record { fits = s.is_row.1; told = refl };
    })

added_sound : IsSound (codes "host add ") added_at
added_sound rest line e =
    let m = mapped (λ (p : HostRow × Bool). Model.HostAdd p.0 p.1) (changed_at rest) line e in
    let s = changed_sound rest m.value m.was in
    subst (IsTold (codes "host add " ++ rest)) m.gives (record {
      spells = record {
        words = s.words;
        spelled = ap (λ t. codes "host add " ++ t) s.spelled ∙ sym (change_grouped (codes "host add ") s.words (outcome_text m.value.1));
        spells = s.is_row.0;
      };
      fits = record { fits = s.is_row.1; told = refl };
    })

net_fits : (net : Net) → IsNet net → FitsNet net
net_fits (V4 net) is = record { address = is.0; prefix = is.1 }
net_fits (V6 net) is = record { address = is.0; prefix = is.1 }

net_is : (net : Net) → FitsNet net → IsNet net
net_is (V4 net) fits = (fits.address, fits.prefix)
net_is (V6 net) fits = (fits.address, fits.prefix)

held_sound : (text : List ℕ) (row : HostRow) (line : Line) → IsRowOf text row → held row ≡ Some line → IsTold (codes "hold " ++ text) line
held_sound text (Route iface dest via metric) line is e = cc
held_sound text (Addr iface net) line is e =
    let low = is.1.0.0 in
    let high = is.1.0.1 in
    subst (IsTold (codes "hold " ++ text)) (some_same e) (record {
      spells = record { words = text; spelled = refl; spells = is.0 };
      fits = record { fits = (omega (arith, high), net_fits net is.1.1); told = and_from _ _ (le-leb 1 iface.number low) (le-leb iface.number 64 high) };
    })

hold_sound : IsSound (codes "hold ") hold_at
hold_sound rest line e =
    let p = passed (row_at rest) held line e in
    held_sound rest p.value line (row_finds.sound rest p.value p.was) p.gives

-- ---- all lines

sound : Printed → (text : List ℕ) (line : Line) → line_at text ≡ Some line → IsTold text line
unfolding line_at kind_at printed_at strip_word
sound law text line e =
    by_kinds words (
      turn_sound law,
      (
        printed_sound shapes.until law (λ rest. refl) (λ x text e. e) (λ x. refl),
        (
          bounded_sound shapes.send law (λ rest. refl) (λ x text e. e),
          (
            row_sound,
            (
              bounded_sound shapes.variable law (λ rest. refl) (λ x text e. e),
              (
                printed_sound shapes.host_listed law (λ rest. refl) (λ x text e. e) (λ x. refl),
                (
                  added_sound,
                  (
                    deleted_sound,
                    (
                      printed_sound shapes.started law (λ rest. refl) (λ x text e. e) (λ x. refl),
                      (
                        printed_sound shapes.polled law (λ rest. refl) (λ x text e. e) (λ x. refl),
                        (
                          printed_sound shapes.dropped law (λ rest. refl) (λ x text e. e) (λ x. refl),
                          (
                            printed_sound shapes.abandoned law (λ rest. refl) (λ x text e. e) (λ x. refl),
                            (
                              bounded_sound shapes.wrote law (λ rest. refl) (λ x text e. e),
                              (
                                bounded_sound shapes.synced law (λ rest. refl) (λ x text e. e),
                                (
                                  bounded_sound shapes.renamed law (λ rest. refl) (λ x text e. e),
                                  (
                                    bounded_sound shapes.removed law (λ rest. refl) (λ x text e. e),
                                    (
                                      printed_sound shapes.settled law (λ rest. refl) (λ x text e. e) (λ x. refl),
                                      (
                                        bounded_sound shapes.read law (λ rest. refl) (λ x text e. e),
                                        (
                                          bounded_sound shapes.asides law (λ rest. refl) (λ x text e. e),
                                          (
                                            printed_sound shapes.asides_failed law (λ rest. refl) (λ x text e. e) (λ x. refl),
                                            (
                                              printed_sound shapes.host_list_failed law (λ rest. refl) (λ x text e. e) (λ x. refl),
                                              (
                                                hold_sound,
                                                (
                                                  printed_sound shapes.end_of_life law (λ rest. refl) (λ x text e. e) (λ x. refl),
                                                  (
                                                    printed_sound shapes.life law (λ rest. refl) (λ x text e. e) (λ x. refl),
                                                    (
                                                      start_sound,
                                                      (
                                                        interface_sound,
                                                        (
                                                            tt),
                                                      ),
                                                    ),
                                                  ),
                                                ),
                                              ),
                                            ),
                                          ),
                                        ),
                                      ),
                                    ),
                                  ),
                                ),
                              ),
                            ),
                          ),
                        ),
                      ),
                    ),
                  ),
                ),
              ),
            ),
          ),
        ),
      ),
    ) text line e

-- ---- what is spelled so is read

printed_whole : (line : Line) (text : List ℕ) → Printed → text ≡ line_words line → FitsLine line → line_at (line_words line) ≡ printed_at (line_words line)
    → line_at text ≡ Some line
printed_whole line text law is fits same = ap line_at is ∙ same ∙ law.whole line fits

bounded_whole : (line : Line) (text : List ℕ) → Printed → text ≡ line_words line → FitsTold line
    → line_at (line_words line) ≡ guarded is_told (printed_at (line_words line)) → line_at text ≡ Some line
bounded_whole line text law is fits same = ap line_at is ∙ same ∙ ap (guarded is_told) (law.whole line fits.fits) ∙ ap (λ b. cond b (Some line) None) fits.told

turn_whole : Printed → (text : List ℕ) (p : Turned) → IsTold text (turn_line p) → line_at text ≡ Some (turn_line p)
unfolding line_at kind_at strip_word turn_at
turn_whole law text p told =
    let s = told.spells in
    let fits = told.fits.fits in
    let parts : TurnWords (decimal p.0 ++ 32 ∷ (decimal p.1.0 ++ 32 ∷ s.event)) p = record {
      front = decimal p.0;
      back = decimal p.1.0 ++ 32 ∷ s.event;
      spelled = refl;
      first = (refl, ltb-true p.0 (10 ^ 15) told.fits.told);
      second = record { front = decimal p.1.0; back = s.event; spelled = refl; first = (refl, fits.1); second = (s.spells, fits.2) };
    } in
    ap line_at (s.spelled ∙ turn_grouped (decimal p.0) (decimal p.1.0) s.event) ∙ ap (option_map turn_line) ((turn_finds law).whole _ p parts)

changed_whole : (words : List ℕ) (row : HostRow) (done : Bool) → IsRowOf words row → changed_at (words ++ 32 ∷ outcome_text done) ≡ Some (row, done)
changed_whole words row done is =
    step _ _ (words, outcome_text done) (last_whole 32 words (outcome_text done) (outcome_lacks done))
    ∙ step _ _ row (row_finds.whole words row is) ∙ step _ _ done (outcome_whole done)

deleted_whole : (text : List ℕ) (row : HostRow) (done : Bool) → IsTold text (Model.HostDel row done) → line_at text ≡ Some (Model.HostDel row done)
unfolding line_at kind_at strip_word
deleted_whole text row done told =
    let s = told.spells in
    ap line_at (s.spelled ∙ change_grouped (codes "host del ") s.words (outcome_text done))
    ∙ ap (option_map (λ p. Model.HostDel p.0 p.1)) (changed_whole s.words row done (s.spells, told.fits.fits))

added_whole : (text : List ℕ) (row : HostRow) (done : Bool) → IsTold text (Model.HostAdd row done) → line_at text ≡ Some (Model.HostAdd row done)
unfolding line_at kind_at strip_word
added_whole text row done told =
    let s = told.spells in
    ap line_at (s.spelled ∙ change_grouped (codes "host add ") s.words (outcome_text done))
    ∙ ap (option_map (λ p. Model.HostAdd p.0 p.1)) (changed_whole s.words row done (s.spells, told.fits.fits))

row_whole : (text : List ℕ) (row : HostRow) → IsTold text (Model.Row row) → line_at text ≡ Some (Model.Row row)
unfolding line_at kind_at strip_word
row_whole text row told = let s = told.spells in ap line_at s.spelled ∙ ap (option_map Model.Row) (row_finds.whole s.words row (s.spells, told.fits.fits))

hold_whole : (text : List ℕ) (iface : IfIndex) (net : Net) → IsTold text (Model.Hold iface net) → line_at text ≡ Some (Model.Hold iface net)
unfolding line_at kind_at strip_word
hold_whole text iface net told =
    let s = told.spells in
    let within = and_parts _ _ told.fits.told in
    let is : IsRowOf s.words (Addr iface net) =
    (s.spells, ((leb-true 1 iface.number within.0, leb-true iface.number 64 within.1), net_is net told.fits.fits.1)) in
    ap line_at s.spelled ∙ ap (λ o. option_and_then held o) (row_finds.whole s.words (Addr iface net) is)

interface_whole : (text : List ℕ) (spec : IfSpec) → IsTold text (Model.Interface spec) → line_at text ≡ Some (Model.Interface spec)
unfolding line_at kind_at strip_word line_words
interface_whole text spec told =
    let within = and_parts _ _ told.fits.told in
    let fits : FitsSpec spec =
    record { index = (leb-true 1 spec.index.number within.0, leb-true spec.index.number 64 within.1); name = told.fits.fits.1; mac = told.fits.fits.2 } in
    ap line_at (told.spells ∙ spec_spelled spec) ∙ ap (option_map Model.Interface) (spec_reads.whole spec fits)

start_whole : (text : List ℕ) (begin : Begin) → IsTold text (Model.Start begin) → line_at text ≡ Some (Model.Start begin)
unfolding line_at kind_at strip_word line_words
start_whole text begin told =
    let fits : FitsBegin 64 begin = record { at = ltb-true begin.at (10 ^ 15) told.fits.told; salt = told.fits.fits.1; up = told.fits.fits.2 } in
    ap line_at (told.spells ∙ begin_spelled begin) ∙ ap (option_map Model.Start) ((begin_reads 64 (omega arith)).whole begin fits)

whole : Printed → (text : List ℕ) (line : Line) → IsTold text line → line_at text ≡ Some line
unfolding line_at kind_at printed_at strip_word line_words
whole law text Model.Head told = let never = told.fits.told in cc
whole law text (Model.Conf conf) told = let never = told.fits.told in cc
whole law text (Model.Notice line word) told = let never = told.fits.told in cc
whole law text (Model.Interface spec) told = interface_whole text spec told
whole law text (Model.Start begin) told = start_whole text begin told
whole law text (Model.Turn at salt event bytes) told = turn_whole law text (at, (salt, (event, bytes))) told
whole law text (Model.Row row) told = row_whole text row told
whole law text (Model.HostDel row done) told = deleted_whole text row done told
whole law text (Model.HostAdd row done) told = added_whole text row done told
whole law text (Model.Hold iface net) told = hold_whole text iface net told
whole law text Model.AsidesFailed told = printed_whole Model.AsidesFailed text law told.spells told.fits.fits refl
whole law text (Model.Settled done) told = printed_whole (Model.Settled done) text law told.spells told.fits.fits refl
whole law text (Model.HookPolled number answer) told = printed_whole (Model.HookPolled number answer) text law told.spells told.fits.fits refl
whole law text (Model.HookAbandoned number) told = printed_whole (Model.HookAbandoned number) text law told.spells told.fits.fits refl
whole law text (Model.HookDropped number reason name) told = printed_whole (Model.HookDropped number reason name) text law told.spells told.fits.fits refl
whole law text (Model.HookStarted number reason name done) told =
    printed_whole (Model.HookStarted number reason name done) text law told.spells told.fits.fits refl
whole law text (Model.HostListed count) told = printed_whole (Model.HostListed count) text law told.spells told.fits.fits refl
whole law text Model.HostListFailed told = printed_whole Model.HostListFailed text law told.spells told.fits.fits refl
whole law text (Model.Until moment) told = printed_whole (Model.Until moment) text law told.spells told.fits.fits refl
whole law text Model.EndOfLife told = printed_whole Model.EndOfLife text law told.spells told.fits.fits refl
whole law text (Model.Life number) told = printed_whole (Model.Life number) text law told.spells told.fits.fits refl
whole law text (Model.Asides names) told = bounded_whole (Model.Asides names) text law told.spells told.fits refl
whole law text (Model.Wrote name bytes done) told = bounded_whole (Model.Wrote name bytes done) text law told.spells told.fits refl
whole law text (Model.Synced name done) told = bounded_whole (Model.Synced name done) text law told.spells told.fits refl
whole law text (Model.Renamed name done) told = bounded_whole (Model.Renamed name done) text law told.spells told.fits refl
whole law text (Model.Removed name done) told = bounded_whole (Model.Removed name done) text law told.spells told.fits refl
whole law text (Model.Read name reading) told = bounded_whole (Model.Read name reading) text law told.spells told.fits refl
whole law text (Model.Variable name value) told = bounded_whole (Model.Variable name value) text law told.spells told.fits refl
whole law text (Model.Send iface bytes taken) told = bounded_whole (Model.Send iface bytes taken) text law told.spells told.fits refl

pub lines_read : Printed → LinesAreRead
lines_read law = record { sound = sound law; whole = whole law }
