-- The line `start`: what is read is spelled so, and what is spelled so is read.
use Rattle.std.proofs.Common.{◌≡◌, ◌≢◌, ℕ, zero, suc, ◌+◌, ◌-◌, ◌*◌, ◌/◌, ◌%◌, ◌^◌, ◌<◌, ◌≤◌, true, false, cond, eqb, List, [], ◌∷◌, ◌++◌, map, filter, Some, None, option_map, option_and_then, refl, sym, ap, ◌∙◌, subst, arith, codes, bytes_eq, add-one}
use Rattle.std.specs.Fmt.{decimal}
use Rattle.std.specs.List.{AllByRecursion, join_with_byte}
use Rattle.std.proofs.lemmas.Bool.{eqb-true, eqb-false, eq-eqb, ne_eqb}
use Rattle.std.proofs.lemmas.List.{append_assoc}
use Rattle.std.proofs.lemmas.Slice.Eq.{bytes_eq-Decides}
use Rattle.std.proofs.Math.Nat.{div-div-eq-div-mul, pow-suc}
use Rattle.net_types.specs.declared.interface.IfIndex.{IfIndex}
use Rattle.net_types.specs.Reads.{Reads}
use Rattle.net_types.specs.Marks.{Lacks, IsPrintable, is_printable}
use Rattle.net_types.specs.Cutting.{pair_at, after_word, list_at, list_text, FitsList}
use Rattle.net_types.specs.Numbers.{number_at, is_numeral}
use Rattle.net_types.proofs.ReadsLaws.{some_same, passed, mapped, steps_assoc, same_reader, word_reads, pair_reads, map_reads}
use Rattle.net_types.proofs.ListLaws.{list_reads}
use Rattle.net_types.proofs.MarkLaws.{decimal_lacks, decimal_printable, only-append}
use Rattle.world.specs.declared.wakes.Begin.{Begin}
use Rattle.script_model.specs.IfaceSets.{is_up}
use Rattle.script_model.specs.Lines as lines
use Rattle.script_model.specs.Lines.{numbers_from, up_list, up_text, start_text}
use Rattle.script_lines.specs.declared.carriers.Listed.{Listed}
use Rattle.row_texts.specs.RowReading.{iface_at}
use Rattle.script_lines.specs.TurnReading.{moment_at, salt_at}
use Rattle.script_lines.specs.Carriers.{listed_at, list_of_listed_at, bits_at, up_at, begin_at}
use Rattle.row_texts.proofs.RowLaws.{FitsIface, iface_reads}
use Rattle.script_lines.proofs.Printables.{joined_printable}
use Rattle.script_lines.proofs.LineLaws.{moment_reads, moment_lacks, salt_reads, salt_lacks}

-- ---- bits

-- the numbers of the bits that are set, of so many, the lowest being the first
ups : ℕ → ℕ → ℕ → List ℕ
ups first zero u = []
ups first (suc n) u = cond (eqb (u % 2) 1) (first ∷ ups (first + 1) n (u / 2)) (ups (first + 1) n (u / 2))

data Parity (u : ℕ) : Type 0 where
  even : (v : ℕ) → u ≡ 2 * v → Parity u
  odd : (v : ℕ) → u ≡ 2 * v + 1 → Parity u

parity : (u : ℕ) → Parity u
parity u =
    elim (eqb (u % 2) 1) as (λ b. eqb (u % 2) 1 ≡ b → Parity u) [
      | true ↦ λ t. odd (u / 2) (one u (eqb-true _ _ t))
      | false ↦ λ t. even (u / 2) (none u (eqb-false _ _ t))
    ] refl
  where
    one : (u : ℕ) → u % 2 ≡ 1 → u ≡ 2 * (u / 2) + 1
    one u e = omega arith

    none : (u : ℕ) → (u % 2 ≡ 1 → ⊥) → u ≡ 2 * (u / 2)
    none u e = omega arith

ups_odd : (first n v : ℕ) → ups first (suc n) (2 * v + 1) ≡ first ∷ ups (first + 1) n v
unfolding ups
ups_odd first n v =
    let bit : (2 * v + 1) % 2 ≡ 1 = omega arith in
    let rest : (2 * v + 1) / 2 ≡ v = omega arith in
    rw (bit, rest) refl

ups_even : (first n v : ℕ) → ups first (suc n) (2 * v) ≡ ups (first + 1) n v
unfolding ups
ups_even first n v =
    let bit : (2 * v) % 2 ≡ 0 = omega arith in
    let rest : (2 * v) / 2 ≡ v = omega arith in
    rw (bit, rest) refl

ups_empty : (first u : ℕ) → ups first zero u ≡ []
unfolding ups
ups_empty first u = refl

ups_none : (n first : ℕ) → ups first n 0 ≡ []
unfolding ups
ups_none zero first = refl
ups_none (suc n) first = ups_none n (first + 1)

ups_zero : (n first u : ℕ) → u < 2 ^ n → ups first n u ≡ [] → u ≡ 0
ups_zero zero first u small e = omega arith
ups_zero (suc n) first u small e =
    elim (parity u) [
      | even v is ↦
          let rest : ups (first + 1) n v ≡ [] = sym (ups_even first n v) ∙ ap (ups first (suc n)) (sym is) ∙ e in
          let less : v < 2 ^ n = omega arith in
          let none : v ≡ 0 = ups_zero n (first + 1) v less rest in
          omega arith
      | odd v is ↦
          let never : first ∷ ups (first + 1) n v ≡ [] = sym (ups_odd first n v) ∙ ap (ups first (suc n)) (sym is) ∙ e in
          cc
    ]

ups_above : (n first u x : ℕ) (xs : List ℕ) → ups first n u ≡ x ∷ xs → first ≤ x
ups_above zero first u x xs e = let never : [] ≡ x ∷ xs = sym (ups_empty first u) ∙ e in cc
ups_above (suc n) first u x xs e =
    elim (parity u) [
      | even v is ↦
          let rest : ups (first + 1) n v ≡ x ∷ xs = sym (ups_even first n v) ∙ ap (ups first (suc n)) (sym is) ∙ e in
          let above : first + 1 ≤ x = ups_above n (first + 1) v x xs rest in
          omega arith
      | odd v is ↦
          let whole : first ∷ ups (first + 1) n v ≡ x ∷ xs = sym (ups_odd first n v) ∙ ap (ups first (suc n)) (sym is) ∙ e in
          let same : first ≡ x = cc in
          omega arith
    ]

-- more places hold no more bits
ups_more : (n total first u : ℕ) → n ≤ total → u < 2 ^ n → ups first total u ≡ ups first n u
ups_more zero total first u le small =
    let none : u ≡ 0 = omega arith in
    ap (ups first total) none ∙ ups_none total first ∙ sym (ups_none zero first) ∙ ap (ups first zero) (sym none)
ups_more (suc n) zero first u le small = absurd (omega arith)
ups_more (suc n) (suc total) first u le small =
    elim (parity u) [
      | even v is ↦
          let less : v < 2 ^ n = omega arith in
          ap (ups first (suc total)) is ∙ ups_even first total v ∙ ups_more n total (first + 1) v (omega arith) less ∙ sym (ups_even first n v)
          ∙ ap (ups first (suc n)) (sym is)
      | odd v is ↦
          let less : v < 2 ^ n = omega arith in
          ap (ups first (suc total)) is ∙ ups_odd first total v ∙ ap (λ r. first ∷ r) (ups_more n total (first + 1) v (omega arith) less)
          ∙ sym (ups_odd first n v) ∙ ap (ups first (suc n)) (sym is)
    ]

-- the list of a line, by bits
halves : (up k : ℕ) → up / 2 ^ k / 2 ≡ up / 2 ^ suc k
halves up k = div-div-eq-div-mul up (2 ^ k) 2 ∙ ap (λ m. up / m) (sym (pow-suc 2 k))

ups_listed : (n k up : ℕ) → filter (is_up up) (numbers_from (suc k) n) ≡ ups (suc k) n (up / 2 ^ k)
unfolding ups
ups_listed zero k up = refl
ups_listed (suc n) k up =
    let next : suc k + 1 ≡ suc (suc k) = add-one (suc k) in
    let less : suc k - 1 ≡ k = omega arith in
    rw (next, less, halves up k, ups_listed n (suc k) up) refl

up_list_is : (up count : ℕ) → count ≤ 64 → up < 2 ^ count → up_list up ≡ ups 1 count up
up_list_is up count few small =
    let same : up / 2 ^ 0 ≡ up = omega arith in
    ups_listed 64 0 up ∙ ap (ups 1 64) same ∙ ups_more count 64 1 up few small

-- ---- the bits of a list that was read

abbrev number_of : Listed → ℕ
number_of l = l.iface.number

bits_sound : (n first : ℕ) (ls : List Listed) (u : ℕ) → bits_at first n ls ≡ Some u → (map number_of ls ≡ ups first n u) × (u < 2 ^ n)
bits_sound zero first [] u e = let none : 0 ≡ u = some_same e in (sym (ups_none zero first) ∙ ap (ups first zero) none, omega arith)
bits_sound zero first (l ∷ ls) u e = cc
bits_sound (suc n) first [] u e =
    let none : 0 ≡ u = some_same e in
    let room : 0 < 2 ^ suc n = positive (suc n) in
    (sym (ups_none (suc n) first) ∙ ap (ups first (suc n)) none, omega arith)
  where
    positive : (n : ℕ) → 0 < 2 ^ n
    positive zero = omega arith
    positive (suc n) = let h = positive n in omega arith
bits_sound (suc n) first (l ∷ ls) u e =
    elim (eqb l.iface.number first) as
    (λ b. eqb l.iface.number first ≡ b
    → cond b (option_map (λ u. 2 * u + 1) (bits_at (first + 1) n ls)) (option_map (λ u. 2 * u) (bits_at (first + 1) n (l ∷ ls))) ≡ Some u
    → (map number_of (l ∷ ls) ≡ ups first (suc n) u) × (u < 2 ^ suc n)) [
      | true ↦ λ t q.
          let m = mapped (λ u. 2 * u + 1) (bits_at (first + 1) n ls) u q in
          let s = bits_sound n (first + 1) ls m.value m.was in
          let same : l.iface.number ≡ first = eqb-true _ _ t in
          let is : 2 * m.value + 1 ≡ u = m.gives in
          let small : m.value < 2 ^ n = s.1 in
          (ap (λ x. x ∷ map number_of ls) same ∙ ap (λ r. first ∷ r) s.0 ∙ sym (ups_odd first n m.value) ∙ ap (ups first (suc n)) is, omega arith)
      | false ↦ λ t q.
          let m = mapped (λ u. 2 * u) (bits_at (first + 1) n (l ∷ ls)) u q in
          let s = bits_sound n (first + 1) (l ∷ ls) m.value m.was in
          let is : 2 * m.value ≡ u = m.gives in
          let small : m.value < 2 ^ n = s.1 in
          (s.0 ∙ sym (ups_even first n m.value) ∙ ap (ups first (suc n)) is, omega arith)
    ] refl e

even_whole : (first n u v : ℕ) (l : Listed) (ls : List Listed) → u ≡ 2 * v → ups (first + 1) n v ≡ map number_of (l ∷ ls)
    → bits_at (first + 1) n (l ∷ ls) ≡ Some v → bits_at first (suc n) (l ∷ ls) ≡ Some u
even_whole first n u v l ls is listed rest =
    let above : first + 1 ≤ l.iface.number = ups_above n (first + 1) v l.iface.number (map number_of ls) listed in
    let other : eqb l.iface.number first ≡ false = ne_eqb _ _ (λ same. let never : l.iface.number ≡ first = same in omega arith) in
    rw (other, rest) (ap (λ x. Some x) (sym is))

odd_whole : (first n u v : ℕ) (l : Listed) (ls : List Listed) → u ≡ 2 * v + 1 → l.iface.number ≡ first → bits_at (first + 1) n ls ≡ Some v
    → bits_at first (suc n) (l ∷ ls) ≡ Some u
odd_whole first n u v l ls is same rest = rw (eq-eqb _ _ same, rest) (ap (λ x. Some x) (sym is))

bits_whole : (n first u : ℕ) (ls : List Listed) → u < 2 ^ n → map number_of ls ≡ ups first n u → bits_at first n ls ≡ Some u
bits_whole zero first u [] small e = ap (λ x. Some x) (let none : 0 ≡ u = omega arith in none)
bits_whole zero first u (l ∷ ls) small e = let never : l.iface.number ∷ map number_of ls ≡ [] = e ∙ ups_empty first u in cc
bits_whole (suc n) first u [] small e = ap (λ x. Some x) (sym (ups_zero (suc n) first u small (sym e)))
bits_whole (suc n) first u (l ∷ ls) small e =
    elim (parity u) [
      | even v is ↦
          let listed : ups (first + 1) n v ≡ map number_of (l ∷ ls) = sym (ups_even first n v) ∙ ap (ups first (suc n)) (sym is) ∙ sym e in
          let less : v < 2 ^ n = omega arith in
          even_whole first n u v l ls is listed (bits_whole n (first + 1) v (l ∷ ls) less (sym listed))
      | odd v is ↦
          let listed : first ∷ ups (first + 1) n v ≡ l.iface.number ∷ map number_of ls = sym (ups_odd first n v) ∙ ap (ups first (suc n)) (sym is) ∙ sym e in
          let others : map number_of ls ≡ ups (first + 1) n v = cc in
          let same : l.iface.number ≡ first = cc in
          let less : v < 2 ^ n = omega arith in
          odd_whole first n u v l ls is same (bits_whole n (first + 1) v ls less others)
    ]

-- ---- lists of interfaces

abbrev FitsListed : Listed → Type 0
FitsListed l = FitsIface l.iface

listed_text : Listed → List ℕ
listed_text l = decimal l.iface.number

listed_reads : Reads listed_text FitsListed listed_at
unfolding listed_at listed_text
listed_reads = map_reads (λ (i : IfIndex). record { iface = i }) (λ l. l.iface) iface_reads (λ i fits. refl) (λ l fits. refl) (λ i fits. fits) (λ l fits. fits)

listed_lacks : (byte : ℕ) → Lacks byte [] → (l : Listed) → FitsListed l → ((n : ℕ) → n < 2 ^ 64 → Lacks byte (decimal n)) → Lacks byte (listed_text l)
unfolding listed_text
listed_lacks byte e l fits free = let within : l.iface.number ≤ 64 = fits.1 in free l.iface.number (omega arith)

some_reads : Reads (list_text 44 listed_text) (FitsList FitsListed) (list_at 44 listed_at)
some_reads = list_reads 44 listed_reads (λ l fits. listed_lacks 44 refl l fits (λ n small. decimal_lacks n 44 small refl))

-- `-` is no list of numbers
no_dash : list_at 44 listed_at (codes "-") ≡ None
unfolding list_at listed_at iface_at number_at is_numeral
no_dash = refl

-- a list that isn't empty is no `-`
no_dash_text : (ls : List Listed) → FitsList FitsListed ls → bytes_eq (list_text 44 listed_text ls) (codes "-") ≡ false
no_dash_text ls fits =
    elim (bytes_eq (list_text 44 listed_text ls) (codes "-")) as (λ b. bytes_eq (list_text 44 listed_text ls) (codes "-") ≡ b → b ≡ false) [
      | true ↦ λ t.
          let dash : list_text 44 listed_text ls ≡ codes "-" = (bytes_eq-Decides _ _).0 t in
          let never : None ≡ Some ls = sym no_dash ∙ ap (list_at 44 listed_at) (sym dash) ∙ some_reads.whole ls fits in cc
      | false ↦ λ t. refl
    ] refl

abbrev listed_numbers : List Listed → List ℕ
listed_numbers ls = map number_of ls

some_text : (ls : List Listed) → ls ≢ [] → list_text 44 listed_text ls ≡ lines.list_text (listed_numbers ls)
unfolding list_text listed_text
some_text [] some = absurd (some refl)
some_text (l ∷ ls) some = ap (join_with_byte 44) (same (l ∷ ls))
  where
    same : (ls : List Listed) → map (λ (l : Listed). decimal l.iface.number) ls ≡ map decimal (listed_numbers ls)
    same [] = refl
    same (l ∷ ls) = ap (λ r. decimal l.iface.number ∷ r) (same ls)

listed_sound : (text : List ℕ) (ls : List Listed) → list_of_listed_at text ≡ Some ls
    → (text ≡ lines.list_text (listed_numbers ls)) × AllByRecursion FitsListed ls
unfolding list_of_listed_at
listed_sound text ls e =
    elim (bytes_eq text (codes "-")) as
    (λ b. bytes_eq text (codes "-") ≡ b → cond b (Some []) (list_at 44 listed_at text) ≡ Some ls
    → (text ≡ lines.list_text (listed_numbers ls)) × AllByRecursion FitsListed ls) [
      | true ↦ λ t q.
          let none : [] ≡ ls = some_same q in
          ((bytes_eq-Decides _ _).0 t ∙ ap (λ xs. lines.list_text (listed_numbers xs)) none, subst (AllByRecursion FitsListed) none tt)
      | false ↦ λ t q. let s = some_reads.sound text ls q in (s.0 ∙ some_text ls s.1.some, s.1.each)
    ] refl e

listed_whole : (ls : List Listed) → AllByRecursion FitsListed ls → list_of_listed_at (lines.list_text (listed_numbers ls)) ≡ Some ls
unfolding list_of_listed_at
listed_whole [] fits = refl
listed_whole (l ∷ ls) fits =
    let some : (l ∷ ls) ≢ [] = λ e. cc in
    let fit : FitsList FitsListed (l ∷ ls) = record { some = some; each = fits } in
    rw (sym (some_text (l ∷ ls) some), no_dash_text (l ∷ ls) fit) (some_reads.whole (l ∷ ls) fit)

-- the numbers of bits as they are listed
listed_ups : ℕ → ℕ → ℕ → List Listed
listed_ups first n u = map (λ i. record { iface = record { number = i } }) (ups first n u)

same_numbers : (xs : List ℕ) → map number_of (map (λ i. record { iface = record { number = i } }) xs) ≡ xs
same_numbers [] = refl
same_numbers (x ∷ xs) = ap (λ r. x ∷ r) (same_numbers xs)

ups_fit : (n first u : ℕ) → 1 ≤ first → first + n ≤ 65 → AllByRecursion FitsListed (map (λ i. record { iface = record { number = i } }) (ups first n u))
unfolding ups
ups_fit zero first u some few = tt
ups_fit (suc n) first u some few =
    elim (eqb (u % 2) 1) as
    (λ b. AllByRecursion FitsListed
    (map (λ i. record { iface = record { number = i } }) (cond b (first ∷ ups (first + 1) n (u / 2)) (ups (first + 1) n (u / 2))))) [
      | true ↦ ((some, omega arith), ups_fit n (first + 1) (u / 2) (omega arith) (omega arith))
      | false ↦ ups_fit n (first + 1) (u / 2) (omega arith) (omega arith)
    ]

up_sound : (count : ℕ) (text : List ℕ) (up : ℕ) → count ≤ 64 → up_at count text ≡ Some up → (text ≡ up_text up) × (up < 2 ^ count)
unfolding up_at up_text
up_sound count text up few e =
    let listed = passed (list_of_listed_at text) (bits_at 1 count) up e in
    let s = listed_sound text listed.value listed.was in
    let b = bits_sound count 1 listed.value up listed.gives in
    (s.0 ∙ ap lines.list_text (b.0 ∙ sym (up_list_is up count few b.1)), b.1)

up_whole : (count up : ℕ) → count ≤ 64 → up < 2 ^ count → up_at count (up_text up) ≡ Some up
unfolding up_at listed_ups up_text
up_whole count up few small =
    let ls = listed_ups 1 count up in
    let numbers : listed_numbers ls ≡ ups 1 count up = same_numbers (ups 1 count up) in
    let spelled : up_text up ≡ lines.list_text (listed_numbers ls) = ap lines.list_text (up_list_is up count few small ∙ sym numbers) in
    let read : list_of_listed_at (up_text up) ≡ Some ls = ap list_of_listed_at spelled ∙ listed_whole ls (ups_fit count 1 up (omega arith) (omega arith)) in
    ap (option_and_then (bits_at 1 count)) read ∙ bits_whole count 1 up ls small numbers

up_reads : (count : ℕ) → count ≤ 64 → Reads up_text (λ up. up < 2 ^ count) (up_at count)
up_reads count few = record { sound = λ text up e. up_sound count text up few e; whole = λ up small. up_whole count up few small }

-- ---- the line

abbrev Start : Type 0
Start = ℕ × (ℕ × ℕ)

abbrev pub begin_words : Begin → List ℕ
begin_words begin = decimal begin.at ++ 32 ∷ (decimal begin.salt ++ 32 ∷ (codes "up " ++ up_text begin.up))

pub record FitsBegin (count : ℕ) (begin : Begin) : Type 0 where
  pub at : begin.at < 10 ^ 15
  pub salt : begin.salt < 2 ^ 64
  pub up : begin.up < 2 ^ count

begin_steps : (count : ℕ) (text : List ℕ)
    → begin_at count text
    ≡ option_map (λ (p : Start). record { at = p.0; salt = p.1.0; up = p.1.1 })
    (pair_at 32 moment_at (pair_at 32 salt_at (after_word (codes "up ") (up_at count))) text)
unfolding begin_at
begin_steps count text = simp steps_assoc

pub begin_reads : (count : ℕ) → count ≤ 64 → Reads begin_words (FitsBegin count) (begin_at count)
begin_reads count few =
    same_reader (begin_at count) (begin_steps count)
    (map_reads (λ (p : Start). record { at = p.0; salt = p.1.0; up = p.1.1 }) (λ begin. (begin.at, (begin.salt, begin.up)))
    (pair_reads 32 moment_reads (pair_reads 32 salt_reads (word_reads (codes "up ") (up_reads count few)) salt_lacks) moment_lacks)
    (λ p fits. refl)
    (λ begin fits. refl)
    (λ p fits. record { at = fits.0; salt = fits.1.0; up = fits.1.1 })
    (λ begin fits. (fits.at, (fits.salt, fits.up))))

pub begin_spelled : (begin : Begin) → start_text begin ≡ codes "start " ++ begin_words begin
begin_spelled begin = simp append_assoc

-- ---- printable

join_printable : (ls : List Listed) → AllByRecursion FitsListed ls → IsPrintable (join_with_byte 44 (map decimal (listed_numbers ls)))
join_printable [] fits = refl
join_printable (l ∷ []) fits = let within : l.iface.number ≤ 64 = fits.0.1 in decimal_printable l.iface.number (omega arith)
join_printable (l ∷ next ∷ ls) fits =
    let within : l.iface.number ≤ 64 = fits.0.1 in
    only-append is_printable (decimal l.iface.number) (44 ∷ join_with_byte 44 (map decimal (listed_numbers (next ∷ ls))))
    (decimal_printable l.iface.number (omega arith))
    (only-append is_printable (codes ",") (join_with_byte 44 (map decimal (listed_numbers (next ∷ ls)))) refl (join_printable (next ∷ ls) fits.1))

list_printable : (ls : List Listed) → AllByRecursion FitsListed ls → IsPrintable (lines.list_text (listed_numbers ls))
list_printable [] fits = refl
list_printable (l ∷ ls) fits = join_printable (l ∷ ls) fits

up_printable : (count up : ℕ) → count ≤ 64 → up < 2 ^ count → IsPrintable (up_text up)
unfolding listed_ups up_text
up_printable count up few small =
    let numbers : listed_numbers (listed_ups 1 count up) ≡ ups 1 count up = same_numbers (ups 1 count up) in
    let spelled : lines.list_text (listed_numbers (listed_ups 1 count up)) ≡ up_text up = ap lines.list_text (numbers ∙ sym (up_list_is up count few small)) in
    subst (IsPrintable) spelled (list_printable (listed_ups 1 count up) (ups_fit count 1 up (omega arith) (omega arith)))

pub begin_printable : (count : ℕ) (begin : Begin) → count ≤ 64 → FitsBegin count begin → IsPrintable (begin_words begin)
begin_printable count begin few fits =
    joined_printable (decimal begin.at) (decimal begin.salt ++ 32 ∷ (codes "up " ++ up_text begin.up))
    (let small = fits.at in decimal_printable begin.at (omega arith))
    (joined_printable (decimal begin.salt) (codes "up " ++ up_text begin.up) (decimal_printable begin.salt fits.salt)
    (only-append is_printable (codes "up ") (up_text begin.up) refl (up_printable count begin.up few fits.up)))
