-- How many interfaces had a turn in a walk over those that have something to do.
use Rattle.std.proofs.Common.{ℕ, zero, suc, ◌≡◌, ◌+◌, ◌-◌, ◌*◌, ◌<◌, ◌≤◌, Bool, true, false, List, [], ◌∷◌, get_or, length, take, refl, sym, ap, subst, ◌∙◌, arith}
use Rattle.std.specs.List.{count_by}
use Rattle.std.proofs.lemmas.List.{take_all}
use Rattle.std.proofs.lemmas.List.Sums.{count_by_more_no, count_by_more_yes}
use Rattle.client_model.specs.declared.interfaces.Iface.{Iface}
use Rattle.client_model.specs.IfaceTurns.{Turn}
use Rattle.client_core.specs.declared.places.Places.{Places}
use Rattle.client_core.specs.Places.{has}
use Rattle.client_core.specs.Resting.{busy_in, is_busy}

one_of : {X : Type 0} (xs : List X) (n : ℕ) → n < length xs → X
one_of [] n lt = absurd (omega arith)
one_of (x ∷ xs) n lt = x

-- those that are passed over aren't counted
module _ {X : Type 0} (p : X → Bool) (xs : List X) where
  none_more : (n from : ℕ) → from + n ≤ length xs → ((other : ℕ) (d : X) → from ≤ other → other < from + n → p (get_or xs other d) ≡ false)
      → count_by p (take (from + n) xs) ≡ count_by p (take from xs)
  none_more zero from le none = let same : from + 0 ≡ from = omega arith in ap (λ (i : ℕ). count_by p (take i xs)) same
  none_more (suc n) from le none =
      let lt : from < length xs = omega (arith, le) in
      let d : X = one_of xs from lt in
      let same : from + suc n ≡ (from + 1) + n = omega arith in
      ap (λ (i : ℕ). count_by p (take i xs)) same
      ∙ none_more n (from + 1) (omega (arith, le))
      (λ (other : ℕ) (d : X) (above : from + 1 ≤ other) (below : other < (from + 1) + n). none other d (omega (arith, above)) (omega (arith, below)))
      ∙ count_by_more_no p xs from d lt (none from d (omega arith) (omega arith))

  none_between : (from to : ℕ) → from ≤ to → to ≤ length xs → ((other : ℕ) (d : X) → from ≤ other → other < to → p (get_or xs other d) ≡ false)
      → count_by p (take to xs) ≡ count_by p (take from xs)
  none_between from to ge le none =
      let same : from + (to - from) ≡ to = omega (arith, ge) in
      ap (λ (i : ℕ). count_by p (take i xs)) (sym same)
      ∙ none_more (to - from) from (subst (λ (i : ℕ). i ≤ length xs) (sym same) le)
      (λ (other : ℕ) (d : X) (above : from ≤ other) (below : other < from + (to - from)). none other d above (subst (λ (i : ℕ). other < i) same below))

-- so many interfaces before a place had a turn, all that have something to do, with six questions each; the one there
-- is the next of them
pub record Counted (turn : Turn) (xs : List Iface) (place turns asked : ℕ) : Type 0 where
  pub six : asked ≡ 6 * turns
  pub had : turns ≡ busy_in turn (take place xs)
  pub next : (d : Iface) → place < length xs → is_busy turn (get_or xs place d) ≡ true

module _ (turn : Turn) (xs : List Iface) (places : Places)
    (exact : (place : ℕ) (d : Iface) → place < length xs → has places place ≡ is_busy turn (get_or xs place d)) where
  module _ (from to : ℕ) (ge : from ≤ to) (le : to ≤ length xs) (none : (other : ℕ) → from ≤ other → other < to → has places other ≡ false)
      (found : to < length xs → has places to ≡ true) where
    passed : busy_in turn (take to xs) ≡ busy_in turn (take from xs)
    passed =
        none_between (is_busy turn) xs from to ge le
        (λ (other : ℕ) (d : Iface) (above : from ≤ other) (below : other < to). sym (exact other d (omega (arith, below, le))) ∙ none other above below)

    is_next : (d : Iface) → to < length xs → is_busy turn (get_or xs to d) ≡ true
    is_next d lt = sym (exact to d lt) ∙ found lt

  -- before the first
  pub counted_first : (to : ℕ) → 0 ≤ to → to ≤ length xs → ((other : ℕ) → 0 ≤ other → other < to → has places other ≡ false)
      → (to < length xs → has places to ≡ true) → Counted turn xs to 0 0
  counted_first to ge le none found = record {
    six = refl;
    had = sym (passed 0 to ge le none found);
    next = is_next 0 to ge le none found;
  }

  -- one that had its turn
  pub counted_more : (place turns asked more to : ℕ) → place < length xs → Counted turn xs place turns asked → (asked ≡ 6 * turns → more ≡ 6 * (turns + 1))
      → place + 1 ≤ to → to ≤ length xs → ((other : ℕ) → place + 1 ≤ other → other < to → has places other ≡ false)
      → (to < length xs → has places to ≡ true) → Counted turn xs to (turns + 1) more
  counted_more place turns asked more to lt counted six ge le none found =
      let d : Iface = one_of xs place lt in
      record {
        six = six counted.six;
        had = ap (λ (n : ℕ). n + 1) counted.had ∙ sym (count_by_more_yes (is_busy turn) xs place d lt (counted.next d lt))
            ∙ sym (passed (place + 1) to ge le none found);
        next = is_next (place + 1) to ge le none found;
      }

-- all
pub counted_all : (turn : Turn) (xs : List Iface) (place turns asked : ℕ) → length xs ≤ place → Counted turn xs place turns asked → turns ≡ busy_in turn xs
counted_all turn xs place turns asked over counted = counted.had ∙ ap (busy_in turn) (take_all place xs over)
