-- What came: what is read is spelled so, and what is spelled so is read.
use Rattle.std.proofs.Common.{◌≡◌, ℕ, ◌^◌, ◌<◌, List, [], ◌∷◌, ◌++◌, length, Option, Some, None, option_map, option_and_then, refl, sym, ap, ◌∙◌, subst, arith, codes, append_assoc}
use Rattle.std.specs.Fmt.{decimal}
use Rattle.std.specs.List.{AllByRecursion}
use Rattle.std.proofs.lemmas.Fmt.{decimal_digit}
use Rattle.net_types.specs.Cutting.{Choices, by_word, choose_at, pair_at, strip_word}
use Rattle.net_types.specs.HexText.{hex_at}
use Rattle.net_types.specs.Ip6Text.{SpellsIp6, ip6_at}
use Rattle.net_types.specs.Marks.{Lacks}
use Rattle.net_types.specs.Numbers.{number_at}
use Rattle.net_types.specs.Reads.{Reads}
use Rattle.net_types.proofs.Ip6Laws.{ip6_found, ip6_whole}
use Rattle.net_types.proofs.MarkLaws.{decimal_lacks}
use Rattle.net_types.proofs.NumberLaws.{number_reads}
use Rattle.net_types.proofs.ReadsLaws.{mapped, some_same, split_whole, strip_sound, strip_whole}
use Rattle.world.specs.declared.wakes.Event.{Event}
use Rattle.world.specs.declared.wakes.Event.TheVariants.{Frame, Carrier, Duplicate, Release, Rebind, Stop, Quiet, End}
use Rattle.script_model.specs.Lines.{Line, Turn, event_text, line_words}
use Rattle.script_model.specs.TurnSpellings.{SpellsEvent}
use Rattle.row_texts.proofs.SpellingLaws.{Finds, OneText, Parted, one_text, pair_finds}
use Rattle.script_lines.specs.TurnReading.{Came, switch_at, without_bytes}
use Rattle.transcript_text.specs.EventFields.{came_field}
use Rattle.transcript_text.specs.Fits.{FitsEvent, FitsLine}
use Rattle.transcript_text.specs.LineShapes.{line_at as printed_at}
use Rattle.transcript_lines.specs.TurnFields.{index_at, inputs, came_at, duplicate_at}

-- the law of lines as they are printed
abbrev pub Printed : Type 0
Printed = Reads line_words FitsLine printed_at

pub cut_word : (word a b : List ℕ) → word ++ a ≡ word ++ b → a ≡ b
cut_word word a b e = some_same (sym (strip_whole word a) ∙ ap (strip_word word) e ∙ strip_whole word b)

-- ---- as it is printed

turn_words : (event : Event) (bytes : List ℕ) → line_words (Turn 0 0 event bytes) ≡ codes "turn 0 0 " ++ event_text event bytes
unfolding line_words
turn_words event bytes = rw (decimal_digit 0 (omega arith)) refl

abbrev turn_of : Came → Line
turn_of came = Turn 0 0 came.0 came.1

abbrev came_in : Line → Came
came_in (Turn at salt event bytes) = (event, bytes)
came_in other = (Quiet, [])

zero_read : number_at (2 ^ 64) (codes "0") ≡ Some 0
zero_read = ap (number_at (2 ^ 64)) (sym (decimal_digit 0 (omega arith))) ∙ (number_reads (2 ^ 64) (omega arith)).whole 0 (omega arith)

as_mapped : {Y : Type 0} (o : Option Y) → option_and_then {U = ℕ × Y} (λ y. Some (0, y)) o ≡ option_map {U = ℕ × Y} (λ y. (0, y)) o
as_mapped None = refl
as_mapped (Some y) = refl

with_zero : {Y : Type 0} (read : List ℕ → Option Y) (text : List ℕ)
    → pair_at 32 (number_at (2 ^ 64)) read (codes "0" ++ 32 ∷ text) ≡ option_map {U = ℕ × Y} (λ y. (0, y)) (read text)
with_zero read text = rw (split_whole 32 (codes "0") text refl, zero_read) (as_mapped (read text))

abbrev turn_line : ℕ × (ℕ × Came) → Line
turn_line p = Turn p.0 p.1.0 p.1.1.0 p.1.1.1

around : (o : Option Came)
    → option_map turn_line (option_map {U = ℕ × (ℕ × Came)} (λ y. (0, y)) (option_map {U = ℕ × Came} (λ y. (0, y)) o)) ≡ option_map turn_of o
around None = refl
around (Some came) = refl

turn_read : (text : List ℕ) → printed_at (codes "turn 0 0 " ++ text) ≡ option_map turn_of (came_field.at text)
unfolding printed_at strip_word
turn_read text =
    ap (option_map turn_line) (with_zero (pair_at 32 (number_at (2 ^ 64)) came_field.at) (codes "0" ++ 32 ∷ text))
    ∙ ap (λ o. option_map turn_line (option_map {U = ℕ × (ℕ × Came)} (λ y. (0, y)) o)) (with_zero came_field.at text)
    ∙ around (came_field.at text)

came_reads : Printed → Reads (λ (came : Came). event_text came.0 came.1) (λ came. FitsEvent came.0 came.1) came_field.at
came_reads law = record {
  sound = λ text came e.
      let s = law.sound (codes "turn 0 0 " ++ text) (turn_of came) (turn_read text ∙ ap (option_map turn_of) e) in
      (cut_word (codes "turn 0 0 ") text (event_text came.0 came.1) (s.0 ∙ turn_words came.0 came.1), s.1.2);
  whole = λ came fits.
      let text = event_text came.0 came.1 in
      let read = law.whole (turn_of came) (omega arith, omega arith, fits) in
      let m = mapped turn_of (came_field.at text) (turn_of came) (sym (turn_read text) ∙ ap printed_at (sym (turn_words came.0 came.1)) ∙ read) in
      m.was ∙ ap (λ c. Some c) (ap came_in m.gives);
}

-- ---- in any spelling

abbrev pub IsCame : List ℕ → Came → Type 0
IsCame text came = SpellsEvent text came.0 came.1 × FitsEvent came.0 came.1

by_choices : (choices : Choices Came)
    → AllByRecursion (λ choice. (rest : List ℕ) (came : Came) → choice.1 rest ≡ Some came → IsCame (choice.0 ++ rest) came) choices
    → (text : List ℕ) (came : Came) → choose_at choices text ≡ Some came → IsCame text came
by_choices [] each text came e = cc
by_choices (choice ∷ choices) each text came e = of_word (by_choices choices each.1 text came) (strip_word choice.0 text) refl e
  where
    of_word : (choose_at choices text ≡ Some came → IsCame text came) → (o : Option (List ℕ)) → strip_word choice.0 text ≡ o
        → by_word o choice.1 (choose_at choices text) ≡ Some came → IsCame text came
    of_word later (Some rest) was q = subst (λ t. IsCame t came) (sym (strip_sound choice.0 text rest was)) (each.0 rest came q)
    of_word later None was q = later q

printed_event : {X : Type 0} (word : List ℕ) (read : List ℕ → Option X) (make : X → Came) → Printed
    → ((rest : List ℕ) → came_field.at (word ++ rest) ≡ option_map make (read rest))
    → ((x : X) (text : List ℕ) → text ≡ event_text (make x).0 (make x).1 → SpellsEvent text (make x).0 (make x).1)
    → (rest : List ℕ) (came : Came) → option_map make (read rest) ≡ Some came → IsCame (word ++ rest) came
printed_event word read make law same spells rest came e =
    let m = mapped make (read rest) came e in
    let s = (came_reads law).sound (word ++ rest) came (same rest ∙ e) in
    let text : word ++ rest ≡ event_text (make m.value).0 (make m.value).1 = s.0 ∙ ap (λ c. event_text c.0 c.1) (sym m.gives) in
    subst (IsCame (word ++ rest)) m.gives (spells m.value (word ++ rest) text, subst (λ c. FitsEvent c.0 c.1) (sym m.gives) s.1)

SpellsIndex : List ℕ → ℕ → Type 0
SpellsIndex = OneText decimal (λ n. n < 2 ^ 32)

duplicate_finds : Finds (Parted 32 (OneText decimal (λ n. n < 2 ^ 32)) SpellsIp6) (pair_at 32 index_at ip6_at)
duplicate_finds =
    pair_finds 32 (one_text (number_reads (2 ^ 32) (omega arith))) (record { sound = ip6_found; whole = ip6_whole })
    (λ text n spells. subst (Lacks 32) (sym spells.0) (decimal_lacks n 32 (let small = spells.1 in omega (arith, small)) refl))

duplicate_grouped : (n : ℕ) (back : List ℕ) → codes "dup " ++ decimal n ++ codes " " ++ back ≡ codes "dup " ++ (decimal n ++ 32 ∷ back)
duplicate_grouped n back = simp append_assoc

duplicate_sound : (rest : List ℕ) (came : Came) → duplicate_at rest ≡ Some came → IsCame (codes "dup " ++ rest) came
duplicate_sound rest came e =
    let m = mapped (λ p. without_bytes (Duplicate p.0 p.1)) (pair_at 32 index_at ip6_at rest) came e in
    let f = duplicate_finds.sound rest m.value m.was in
    let words : rest ≡ decimal m.value.0 ++ 32 ∷ f.back = f.spelled ∙ ap (λ t. t ++ 32 ∷ f.back) f.first.0 in
    subst (IsCame (codes "dup " ++ rest)) m.gives (
      record { address = f.back; spelled = ap (λ r. codes "dup " ++ r) words ∙ sym (duplicate_grouped m.value.0 f.back); spells = f.second },
      (f.first.1, f.second.range, refl),
    )

came_sound : Printed → (text : List ℕ) (came : Came) → came_at text ≡ Some came → IsCame text came
unfolding came_at strip_word switch_at
came_sound law text came e =
    by_choices inputs (
      printed_event (codes "frame ") (pair_at 32 index_at hex_at) (λ p. (Frame p.0 (length p.1), p.1)) law (λ rest. refl) (λ x text e. e),
      (
        duplicate_sound,
        (
          printed_event (codes "quiet") _ (λ none. without_bytes Quiet) law (λ rest. refl) (λ x text e. e),
          (
            printed_event (codes "stop") _ (λ none. without_bytes Stop) law (λ rest. refl) (λ x text e. e),
            (
              printed_event (codes "carrier ") (pair_at 32 index_at switch_at) (λ p. without_bytes (Carrier p.0 p.1)) law (λ rest. refl) (λ x text e. e),
              (
                printed_event (codes "release ") index_at (λ iface. without_bytes (Release iface)) law (λ rest. refl) (λ x text e. e),
                (printed_event (codes "rebind ") index_at (λ iface. without_bytes (Rebind iface)) law (λ rest. refl) (λ x text e. e), tt),
              ),
            ),
          ),
        ),
      ),
    ) text came e

came_whole : Printed → (text : List ℕ) (event : Event) (bytes : List ℕ) → IsCame text (event, bytes) → came_at text ≡ Some (event, bytes)
unfolding came_at strip_word switch_at
came_whole law text (Frame iface len) bytes good = ap came_at good.0 ∙ (came_reads law).whole (Frame iface len, bytes) good.1
came_whole law text (Carrier iface up) bytes good = ap came_at good.0 ∙ (came_reads law).whole (Carrier iface up, bytes) good.1
came_whole law text (Release iface) bytes good = ap came_at good.0 ∙ (came_reads law).whole (Release iface, bytes) good.1
came_whole law text (Rebind iface) bytes good = ap came_at good.0 ∙ (came_reads law).whole (Rebind iface, bytes) good.1
came_whole law text Stop bytes good = ap came_at good.0 ∙ (came_reads law).whole (Stop, bytes) good.1
came_whole law text Quiet bytes good = ap came_at good.0 ∙ (came_reads law).whole (Quiet, bytes) good.1
came_whole law text End bytes good = absurd good.1
came_whole law text (Duplicate iface addr) bytes good =
    let s = good.0 in
    let words = decimal iface ++ 32 ∷ s.address in
    let parts : Parted 32 (OneText decimal (λ n. n < 2 ^ 32)) SpellsIp6 words (iface, addr) =
    record { front = decimal iface; back = s.address; spelled = refl; first = (refl, good.1.0); second = s.spells } in
    ap came_at (s.spelled ∙ duplicate_grouped iface s.address)
    ∙ ap (option_map (λ p. without_bytes (Duplicate p.0 p.1))) (duplicate_finds.whole words (iface, addr) parts)
    ∙ ap (λ bs. Some (Duplicate iface addr, bs)) (sym good.1.2)

pub came_finds : Printed → Finds IsCame came_at
came_finds law = record { sound = came_sound law; whole = λ text came good. came_whole law text came.0 came.1 good }
