-- Calls counted by the number of the next.
use Rattle.std.proofs.Common.{◌≡◌, ℕ, ◌+◌, ◌-◌, ◌^◌, ◌<◌, ◌≤◌, Bool, true, false, List, [], ◌∷◌, Option, Some, None, nat_lt, refl, sym, ap, ◌∙◌, arith}
use Rattle.std.specs.Prelude.{if◌then◌else◌}
use Rattle.std.proofs.Math.Nat.{min-eq_left, min-eq_right}
use Rattle.std.proofs.lemmas.Bool.{ltb-true, ltb-false}
use Rattle.world.specs.Streams.{count_after}
use Rattle.world_mem.specs.StreamRecord.{call_fails, none_fails, next_call, calls_before, FewFailed}

one_more : (number : ℕ) → 1 ≤ number → (below : Bool) → nat_lt (number + 1) (2 ^ 64) ≡ below
    → calls_before (if below then Some (number + 1) else None) ≡ count_after (number - 1)
one_more number some true is =
    let below : number + 1 < 2 ^ 64 = ltb-true (number + 1) (2 ^ 64) is in
    let within : number - 1 + 1 ≤ 2 ^ 64 - 1 = omega (arith, below, some) in
    let same : number + 1 - 1 ≡ number - 1 + 1 = omega (arith, some) in
    same ∙ sym (min-eq_left within)
one_more number some false is =
    let above : 2 ^ 64 ≤ number + 1 = ltb-false (number + 1) (2 ^ 64) is in
    let past : 2 ^ 64 - 1 ≤ number - 1 + 1 = omega (arith, above, some) in
    sym (min-eq_right past)

-- one more call was made
pub counted_once : (failed : ℕ) (next after : Option ℕ) → FewFailed failed next → after ≡ next_call next → calls_before after ≡ count_after (calls_before next)
counted_once failed None after few is = ap calls_before is
counted_once failed (Some number) after few is = ap calls_before is ∙ one_more number (omega (arith, few)) (nat_lt (number + 1) (2 ^ 64)) refl

-- a stream of which no call fails has none that does
pub no_call_fails : (next : Option ℕ) (failing : List ℕ) → call_fails next failing ≡ true → none_fails failing ≡ true → ⊥
no_call_fails None failing fails none = let never : ⊥ = cc in never
no_call_fails (Some number) [] fails none = let never : ⊥ = cc in never
no_call_fails (Some number) (first ∷ failing) fails none = let never : ⊥ = cc in never
