-- The rows that are brought and those that are wanted are no more than all rows of the places.
use Rattle.std.proofs.Common.{ℕ, zero, suc, ◌≡◌, ◌≤◌, ◌<◌, ◌+◌, ◌^◌, Bool, true, ◌||◌, List, [], ◌∷◌, ◌++◌, length, get_or, set, refl, sym, ap, subst, ◌∙◌, arith, length-append}
use Rattle.std.specs.Prelude.{map}
use Rattle.std.specs.Ordering.{is_eq}
use Rattle.std.specs.Cmp.{tied_itself}
use Rattle.std.specs.BTreeMap.{is_at}
use Rattle.std.proofs.lemmas.Bool.{false≢true, and_parts}
use Rattle.std.proofs.lemmas.List.{length-map}
use Rattle.std.proofs.lemmas.List.Folds.{list_any-append}
use Rattle.std.proofs.lemmas.Map.Keys.{IsDistinct-from_sorted}
use Rattle.std.proofs.lemmas.Map.Made.{length-le_from_is_member}
use Rattle.net_types.proofs.CaseLaws.{split}
use Rattle.world.specs.declared.rows.HostRow.{HostRow}
use Rattle.world.specs.RowOrder.{row_cmp, row_eq_equivalence, has_row}
use Rattle.host_model.specs.Precedence.{is_kept, all_rows}
use Rattle.host_tables.specs.declared.bringing.Bringing.{Bringing}
use Rattle.host_tables.specs.declared.union.Union.{Union}
use Rattle.host_tables.specs.Bringings.{bringing_cmp, bringing_cmp_total, bringing_eq_equivalence, has_bringing}
use Rattle.host_tables.specs.Costs.{AreFew, HaveDigits, most_steps, rows_exchanged}
use Rattle.host_tables.specs.Unions.{Unites}
use Rattle.host_tables.proofs.Counting.{both_few}
use Rattle.host_tables.proofs.Contending.{or_is, or_more, row_is}

-- ---- the places' rows as bringings

abbrev bringings_of : ℕ → List HostRow → List Bringing
bringings_of place rows = map (λ row. record { row = row; place = place }) rows

abbrev all_bringings : ℕ → List (List HostRow) → List Bringing
all_bringings from [] = []
all_bringings from (rows ∷ places) = bringings_of from rows ++ all_bringings (suc from) places

as_many : (from : ℕ) (places : List (List HostRow)) → length (all_bringings from places) ≡ length (all_rows places)
as_many from [] = refl
as_many from (rows ∷ places) =
    let more = as_many (suc from) places in
    let left = length-append (bringings_of from rows) (all_bringings (suc from) places) in
    let right = length-append rows (all_rows places) in
    let same : length (bringings_of from rows) ≡ length rows = length-map rows (λ row. record { row = row; place = from }) in
    omega arith

among_own : (place : ℕ) (rows : List HostRow) (q : HostRow) → has_row rows q ≡ true → has_bringing (bringings_of place rows) q place ≡ true
among_own place [] q has = absurd (false≢true has)
among_own place (row ∷ rows) q has =
    split (is_eq (row_cmp q row))
    (λ here. or_is _ (has_bringing (bringings_of place rows) q place)
    (ap (λ (r : HostRow). is_eq (bringing_cmp (record { row = r; place = place }) (record { row = row; place = place }))) (row_is q row here)
    ∙ ap is_eq (tied_itself bringing_cmp_total (record { row = row; place = place }))))
    (λ there. or_more (is_eq (bringing_cmp (record { row = q; place = place }) (record { row = row; place = place }))) _
    (among_own place rows q (sym (ap (λ (b : Bool). b || has_row rows q) there) ∙ has)))

among_all : (from : ℕ) (places : List (List HostRow)) (q : HostRow) (at n : ℕ) → n ≡ at + from → has_row (get_or places at []) q ≡ true
    → has_bringing (all_bringings from places) q n ≡ true
among_all from [] q at n is has = absurd (false≢true has)
among_all from (rows ∷ places) q zero n is has =
    let here : from ≡ n = omega arith in
    list_any-append (is_at (bringing_cmp (record { row = q; place = n }))) (bringings_of from rows) (all_bringings (suc from) places)
    ∙ or_is _ (has_bringing (all_bringings (suc from) places) q n)
    (subst (λ (m : ℕ). has_bringing (bringings_of from rows) q m ≡ true) here (among_own from rows q has))
among_all from (rows ∷ places) q (suc at) n is has =
    list_any-append (is_at (bringing_cmp (record { row = q; place = n }))) (bringings_of from rows) (all_bringings (suc from) places)
    ∙ or_more (has_bringing (bringings_of from rows) q n) _ (among_all (suc from) places q at n (omega arith) has)

-- ---- no more than all rows

module _ (places : List (List HostRow)) (union : Union) (unites : Unites places union) where
  few_brought : length union.brought.items ≤ length (all_rows places)
  few_brought =
      let all = all_bringings 0 places in
      let fewer : length union.brought.items ≤ length all =
      length-le_from_is_member bringing_eq_equivalence union.brought.items all (IsDistinct-from_sorted bringing_cmp union.brought.items unites.each_once)
      (λ b has. among_all 0 places b.row b.place b.place (omega arith) (sym (unites.brought b.row b.place) ∙ has)) in
      let same = as_many 0 places in
      omega arith

  few_wanted : length union.wanted.items ≤ length (all_rows places)
  few_wanted =
      length-le_from_is_member row_eq_equivalence union.wanted.items (all_rows places) (IsDistinct-from_sorted row_cmp union.wanted.items unites.in_order)
      (λ q has. (and_parts (is_kept (all_rows places) q) (has_row (all_rows places) q) (sym (unites.wanted q) ∙ has)).1)

few_of_one : (places : List (List HostRow)) (place : ℕ) → length (get_or places place []) ≤ length (all_rows places)
few_of_one [] place = omega arith
few_of_one (rows ∷ places) zero = let both = length-append rows (all_rows places) in omega arith
few_of_one (rows ∷ places) (suc k) = let both = length-append rows (all_rows places) in let more = few_of_one places k in omega arith

few_of_new : (places : List (List HostRow)) (place : ℕ) (rows : List HostRow) → place < length places → length rows ≤ length (all_rows (set places place rows))
few_of_new [] place rows lt = absurd (omega arith)
few_of_new (x ∷ places) zero rows lt = let both = length-append rows (all_rows places) in omega arith
few_of_new (x ∷ places) (suc k) rows lt =
    let both = length-append x (all_rows (set places k rows)) in let more = few_of_new places k rows (omega arith) in omega arith

pub are_few : (places : List (List HostRow)) (old new : Union) (place : ℕ) (before after : List HostRow) (d : ℕ) → Unites places old
    → Unites (set places place after) new → place < length places → before ≡ get_or places place [] → HaveDigits d places place after
    → AreFew d before after old new
are_few places old new place before after d unites unites_now lt is few =
    let brought = few_brought places old unites in
    let brings = few_brought (set places place after) new unites_now in
    let wanted = few_wanted places old unites in
    let wants = few_wanted (set places place after) new unites_now in
    let was = subst (λ (rows : List HostRow). length rows ≤ length (all_rows places)) (sym is) (few_of_one places place) in
    let will = few_of_new places place after lt in
    record {
      brought = omega (arith, old.brought.ok.0, few.before);
      brings = omega (arith, new.brought.ok.0, few.now);
      wanted = omega (arith, old.wanted.ok.0, few.before);
      wants = omega (arith, new.wanted.ok.0, few.now);
      changed = both_few (length before) (length after) d (omega (arith, few.before)) (omega (arith, few.now));
    }

-- the steps of a change, by all rows of the places
pub steps_of_tables : (places inside : List (List HostRow)) (old new : Union) (place : ℕ) (before after rows : List HostRow) (start end : ℕ)
    → inside ≡ places → Unites inside old → Unites (set inside place after) new → place < length inside → before ≡ get_or inside place [] → after ≡ rows
    → ((d : ℕ) → AreFew d before after old new → end ≤ start + most_steps (length before + length after) d)
    → (d : ℕ) → HaveDigits d places place rows → end ≤ start + most_steps (rows_exchanged places place rows) d
steps_of_tables places inside old new place before after rows start end view unites unites_now lt is same steps =
    subst (λ (all : List (List HostRow)). (d : ℕ) → HaveDigits d all place rows → end ≤ start + most_steps (rows_exchanged all place rows) d) view
    (subst (λ (now : List HostRow). (d : ℕ) → HaveDigits d inside place now → end ≤ start + most_steps (rows_exchanged inside place now) d) same
    (λ d few. subst (λ (was : List HostRow). end ≤ start + most_steps (length was + length after) d) is
    (steps d (are_few inside old new place before after d unites unites_now lt is few))))

-- where nothing was changed there are none
pub no_steps : (places : List (List HostRow)) (place : ℕ) (rows : List HostRow) (start end : ℕ) → end ≡ start
    → (d : ℕ) → HaveDigits d places place rows → end ≤ start + most_steps (rows_exchanged places place rows) d
no_steps places place rows start end same d few = omega (arith, same)
