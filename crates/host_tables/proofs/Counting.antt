-- Steps and places of one row after another, added up.
use Rattle.std.proofs.Common.{ℕ, ◌≡◌, ◌≤◌, ◌<◌, ◌+◌, ◌*◌, ◌^◌, zero, suc, Bool, true, false, cond, List, [], ◌∷◌, length, add-one, refl, ap, ◌∙◌, arith}
use Rattle.std.proofs.Math.Nat.{pow-suc}
use Rattle.std.specs.Prelude.{if◌then◌else◌, filter}
use Rattle.host_tables.specs.Costs.{most_steps}

-- so many steps for each row so far, and for one more
pub more_steps : (start each i was now : ℕ) → was ≤ start + i * each → now ≤ was + each → now ≤ start + (i + 1) * each
more_steps start each i was now so_far step = let next : (i + 1) * each ≡ i * each + each = omega arith in omega arith

-- a key joins at most once
pub one_more : (b : Bool) (was now : ℕ) → now ≡ was + (if b then 0 else 1) → now ≤ was + 1
one_more true was now e = omega arith
one_more false was now e = omega arith

-- and none goes
pub no_fewer : (b : Bool) (was now : ℕ) → now ≡ was + (if b then 0 else 1) → was ≤ now
no_fewer true was now e = omega arith
no_fewer false was now e = omega arith

pub none_of_none : {X : Type 0} (xs : List X) → length xs ≡ 0 → [] ≡ xs
none_of_none [] none = refl
none_of_none (x ∷ xs) none = absurd (omega (arith, none))

-- no more are left than were there
pub fewer_left : {X : Type 0} (p : X → Bool) (xs : List X) → length (filter p xs) ≤ length xs
fewer_left p [] = omega arith
fewer_left p (x ∷ xs) = by (p x) (fewer_left p xs)
  where
    by : (b : Bool) → length (filter p xs) ≤ length xs → length (cond b (x ∷ filter p xs) (filter p xs)) ≤ suc (length xs)
    by true r = omega arith
    by false r = omega arith

-- one halving more finds both
pub both_few : (a b d : ℕ) → a < 2 ^ d → b < 2 ^ d → a + b < 2 ^ (d + 1)
both_few a b d few more = let twice : 2 ^ (d + 1) ≡ 2 ^ d * 2 = ap (λ (n : ℕ). 2 ^ n) (add-one d) ∙ pow-suc 2 d in omega arith

fewer_times : (a b d : ℕ) → a ≤ b → a * d ≤ b * d
fewer_times zero b d le = omega arith
fewer_times (suc a) zero d le = omega arith
fewer_times (suc a) (suc b) d le = let less = fewer_times a b d (omega arith) in omega arith

-- the steps of a change, of its heads, bringings, lists and wanted rows
pub all_steps : (m k d gone come start a b c e f g h end : ℕ) → gone ≤ m + k → come ≤ m + k
    → a ≤ start + (m + k) * (2 * (d + 1)) → b ≤ a + m * d → c ≤ b + k * d → e ≤ c + (m + k) * (2 * (d + 1)) → f ≤ e + (m + k) + (m + k)
    → g ≤ f + (m + k) + (m + k)
    → h ≤ g + gone * d → end ≤ h + come * d → end ≤ start + most_steps (m + k) d
all_steps m k d gone come start a b c e f g h end few_gone few_come heads out brought heads_after left_gone left_come removed added =
    let less = fewer_times gone (m + k) d few_gone in
    let more = fewer_times come (m + k) d few_come in
    omega arith
