-- What stands at no place before is found at the first place.
use Rattle.std.proofs.Common.{◌≡◌, ◌∙◌, ℕ, zero, suc, ◌+◌, Bool, true, false, cond, List, [], ◌∷◌, Option, Some, None, option_map, ap, refl, sym, arith}
use Rattle.std.specs.List.{position, position_from}
use Rattle.std.proofs.lemmas.Iterator.Adapters.{position_from-zero}
use Rattle.memchr.specs.Find.{IsFirstByte}

-- where the first byte has the place i
first_from : (test : ℕ → Bool) (bytes : List ℕ) (i : ℕ) (found : Option ℕ) → IsFirstByte test bytes found
    → option_map (λ k. i + k) found ≡ position_from test i bytes
first_from test [] i None none = refl
first_from test [] i (Some k) first = absurd (omega arith)
first_from test (byte ∷ bytes) i found first = by (first_from test bytes (i + 1)) (test byte) found refl first
  where
    by : ((later : Option ℕ) → IsFirstByte test bytes later → option_map (λ k. i + 1 + k) later ≡ position_from test (i + 1) bytes) →
        (passes : Bool) (found : Option ℕ) → test byte ≡ passes → IsFirstByte test (byte ∷ bytes) found
        → option_map (λ k. i + k) found ≡ cond passes (Some i) (position_from test (i + 1) bytes)
    by later true None e none = absurd (none 0 (omega arith) (omega arith) e)
    by later true (Some zero) e first = ap Some (omega arith)
    by later true (Some (suc k)) e first = absurd (first.0.before 0 (omega arith) (omega arith) e)
    by later false None e none = later None (λ k low high. none (suc k) (omega arith) (omega arith))
    by later false (Some zero) e first = cc
    by later false (Some (suc k)) e first =
        ap Some (omega arith) ∙ later (Some k)
        (record { low = omega arith; high = omega arith; before = λ n low high. first.0.before (suc n) (omega arith) (omega arith) }, first.1)

pub first_place : (test : ℕ → Bool) (bytes : List ℕ) (found : Option ℕ) → IsFirstByte test bytes found → found ≡ position test bytes
first_place test bytes found first = same found ∙ first_from test bytes 0 found first ∙ sym (position_from-zero test bytes)
  where
    same : (found : Option ℕ) → found ≡ option_map (λ k. 0 + k) found
    same None = refl
    same (Some k) = ap Some (omega arith)
