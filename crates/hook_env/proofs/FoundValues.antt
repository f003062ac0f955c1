-- The value of a code in a lease, with where it lies in memory and without.
use Rattle.std.proofs.Common.{ℕ, ◌≡◌, Bool, true, false, cond, List, [], ◌∷◌, Some, refl}
use Rattle.std.specs.Prelude.{◌==◌, find}
use Rattle.std.specs.Option.{option_map}
use Rattle.lease_text.specs.declared.lease.Value.{Value}
use Rattle.lease_text.specs.Leases.{value_content, values_content}
use Rattle.hook_env.specs.ValueTexts.{value_in}

bytes_first : (b : Bool) (value : Value) (others : List Value) (code : ℕ)
    → value_in code (values_content others) ≡ option_map (λ found. found.bytes.items) (find (λ kept. kept.code == code) others)
    → option_map (λ found. found.bytes) (cond b (Some (value_content value)) (find (λ kept. kept.code == code) (values_content others)))
    ≡ option_map (λ found. found.bytes.items) (cond b (Some value) (find (λ kept. kept.code == code) others))
bytes_first true value others code more = refl
bytes_first false value others code more = more

pub bytes_found : (code : ℕ) (values : List Value)
    → value_in code (values_content values) ≡ option_map (λ found. found.bytes.items) (find (λ kept. kept.code == code) values)
bytes_found code [] = refl
bytes_found code (value ∷ others) = bytes_first (value.code == code) value others code (bytes_found code others)
