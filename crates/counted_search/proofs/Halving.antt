-- What a search has found so far, and how many steps it has left.
use Rattle.std.proofs.Common.{◌≡◌, ℕ, zero, suc, ◌+◌, ◌^◌, ◌<◌, ◌≤◌, List, [], ◌∷◌, length, get_or, HoldsAt, refl, subst, arith}
use Rattle.std.specs.declared.cmp.Ordering.{Ordering}
use Rattle.std.specs.declared.cmp.Ordering.TheVariants.{Less, Equal, Greater}
use Rattle.std.specs.List.{AllWithin}
use Rattle.std.specs.List.Sorted.{IsNonDecreasingBy}
use Rattle.std.specs.Ordering.{ordering_index}

least : (o : Ordering) → ordering_index o ≤ 0 → o ≡ Less
least Less h = refl
least Equal h = absurd (omega arith)
least Greater h = absurd (omega arith)

greatest : (o : Ordering) → 2 ≤ ordering_index o → o ≡ Greater
greatest Less h = absurd (omega arith)
greatest Equal h = absurd (omega arith)
greatest Greater h = refl

-- what was read at a place is there, whatever the default
pub read_at : {X : Type 0} (P : X → Type 0) (xs : List X) (i : ℕ) (x : X) → i < length xs → x ≡ get_or xs i x → P x → HoldsAt P xs i
read_at P [] i x within is p d = absurd (omega arith)
read_at P (y ∷ ys) zero x within is p d = subst P is p
read_at P (y ∷ ys) (suc i) x within is p d = read_at P ys i x (omega arith) is p d

module _ {X : Type 0} (ord : X → Ordering) (xs : List X) where
  abbrev pub Rises : Type 0
  Rises = IsNonDecreasingBy (λ y. ordering_index (ord y)) xs

  -- where the answers rise, all below `low` are `Less` and all from `high` on `Greater`
  pub record Narrowed (low high : ℕ) : Type 0 where
    pub below : Rises → AllWithin (λ y. ord y ≡ Less) xs 0 low
    pub above : Rises → AllWithin (λ y. ord y ≡ Greater) xs high (length xs)

  pub all_open : Narrowed 0 (length xs)
  all_open = record { below = λ up k d a b. absurd (omega arith); above = λ up k d a b. absurd (omega arith) }

  pub from_less : (low high middle : ℕ) → middle < length xs → Narrowed low high → HoldsAt (λ y. ord y ≡ Less) xs middle → Narrowed (middle + 1) high
  from_less low high middle within n less = record {
    below =
        λ up k d a b. least _ (subst (λ (o : Ordering). ordering_index (ord (get_or xs k d)) ≤ ordering_index o) (less d) (up k middle d (omega arith) within));
    above = n.above;
  }

  pub from_greater : (low high middle : ℕ) → Narrowed low high → HoldsAt (λ y. ord y ≡ Greater) xs middle → Narrowed low middle
  from_greater low high middle n greater = record {
    below = n.below;
    above = λ up k d a b. greatest _ (subst (λ (o : Ordering). ordering_index o ≤ ordering_index (ord (get_or xs k d))) (greater d) (up middle k d a b));
  }

-- among so many, this many steps are enough, and these were made
abbrev pub Enough : (left made all : ℕ) → Type 0
Enough left made all = (more : ℕ) × (left < 2 ^ more) × (made + more ≤ all)

-- a step leaves at most half of them
pub one_step : (left half made next all : ℕ) → half + half < left + 1 → 0 < left → next ≤ made + 1 → Enough left made all → Enough half next all
one_step left half made next all halves some counted (zero, room, sum) = absurd (omega arith)
one_step left half made next all halves some counted (suc more, room, sum) = (more, omega arith, omega arith)
