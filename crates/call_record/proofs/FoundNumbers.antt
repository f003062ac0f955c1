-- Finding a number in a list.
use Rattle.std.proofs.Common.{◌≡◌, ℕ, ◌<◌, ◌≤◌, Bool, true, false, List, length, get_or, Result, Ok, Err, sym, ◌∙◌, arith, ⊎_elim, eq-eqb}
use Rattle.std.specs.Prelude.{◌==◌, is_ok, MatchResult}
use Rattle.std.specs.Ordering.{nat_cmp, is_le, is_some_and}
use Rattle.std.specs.Prelude.{Some, All}
use Rattle.std.specs.List.{IsAllAdjacentAnswer}
use Rattle.std.specs.List.Sorted.{IsBinarySearchResult, IsNonDecreasing}
use Rattle.std.proofs.lemmas.List.{get_or_default}
use Rattle.std.proofs.lemmas.List.Folds.{list_any_at, list_any_none}
use Rattle.std.proofs.lemmas.List.Sorted.{searched, non_decreasing_from_is_sorted}
use Rattle.std.proofs.lemmas.Bool.{ne_eqb, cases_lt}
use Rattle.world.specs.Causes.{has_number}

found : (xs : List ℕ) (n : ℕ) (r : Result ℕ ℕ)
    → MatchResult r (λ i. (i < length xs) × (get_or xs i 0 ≡ n))
    (λ i. (i ≤ length xs) × ((k : ℕ) → k < i → get_or xs k 0 < n) × ((k : ℕ) → i ≤ k → k < length xs → n < get_or xs k 0))
    → is_ok r ≡ has_number xs n
found xs n (Ok i) h = sym (list_any_at (λ k. k == n) xs i 0 h.0 (eq-eqb (get_or xs i 0) n h.1))
found xs n (Err i) h =
    let lacks : All (λ k. (k == n) ≡ false) xs = λ k d lt. ne_eqb (get_or xs k d) n (λ e. let here : get_or xs k 0 ≡ n = get_or_default xs k 0 d lt ∙ e in
    ⊎_elim (λ below. absurd (let b : get_or xs k 0 < n = h.1 k below in omega arith))
    (λ above. absurd (let a : n < get_or xs k 0 = h.2 k above lt in omega arith)) (cases_lt k i))
    in
    sym (list_any_none (λ k. k == n) xs lacks)

-- what a binary search in rising numbers says
pub search_has : (seen xs : List ℕ) (n : ℕ) (r : Result ℕ ℕ) → seen ≡ xs → IsNonDecreasing xs → IsBinarySearchResult (λ y. nat_cmp y n) seen r
    → is_ok r ≡ has_number xs n
search_has seen xs n r e rises is =
    let here : IsBinarySearchResult (λ y. nat_cmp y n) xs r = rw e at is in
    found xs n r (searched xs n r here (λ i j le lt. rises i j 0 le lt))

rises_by : (xs : List ℕ) (r : Bool) → IsAllAdjacentAnswer (λ x y b. is_some_and is_le (Some (nat_cmp x y)) ≡ b) xs r → r ≡ true → IsNonDecreasing xs
rises_by xs true is e = non_decreasing_from_is_sorted xs true is
rises_by xs false is e = cc

-- where the test says so, the numbers rise
pub rises_where : (seen xs : List ℕ) (r : Bool) → seen ≡ xs → IsAllAdjacentAnswer (λ x y b. is_some_and is_le (Some (nat_cmp x y)) ≡ b) seen r → r ≡ true
    → IsNonDecreasing xs
rises_where seen xs r e is t = rw (← e) (rises_by seen r is t)
