-- The value of a code in a lease, with where it lies in memory and without.
use Rattle.std.proofs.Common.{ℕ, ◌≡◌, Bool, true, false, cond, List, [], ◌∷◌, Some, length, take, arith, refl}
use Rattle.std.specs.Prelude.{◌==◌, ◌<◌, ◌%◌, nat_lt, find, option_and_then}
use Rattle.std.specs.Option.{option_map}
use Rattle.std.proofs.lemmas.Bool.Decides.{nat_tests}
use Rattle.lease_text.specs.declared.lease.Value.{Value}
use Rattle.lease_text.specs.Leases.{value_content, values_content}
use Rattle.v4_options.specs.Numbers.{addresses, addr_in, addrs_in}
use Rattle.client_model.specs.WantedRows.{value_in, preferred}

first_found : (b : Bool) (value : Value) (others : List Value) (code : ℕ)
    → value_in code (values_content others) ≡ option_map (λ found. found.bytes.items) (find (λ kept. kept.code == code) others)
    → option_map (λ found. found.bytes) (cond b (Some (value_content value)) (find (λ kept. kept.code == code) (values_content others)))
    ≡ option_map (λ found. found.bytes.items) (cond b (Some value) (find (λ kept. kept.code == code) others))
first_found true value others code more = refl
first_found false value others code more = more

pub value_found : (code : ℕ) (values : List Value)
    → value_in code (values_content values) ≡ option_map (λ found. found.bytes.items) (find (λ kept. kept.code == code) values)
value_found code [] = refl
value_found code (value ∷ others) = first_found (value.code == code) value others code (value_found code others)

-- the first of the addresses of a value is its first four bytes
pub first_four : (value : List ℕ) → 0 < length value → length value % 4 ≡ 0 → addr_in (take 4 value) ≡ option_and_then preferred (addrs_in value)
unfolding addresses
first_four [] some whole = absurd (omega arith)
first_four (a ∷ []) some whole = cc
first_four (a ∷ b ∷ []) some whole = cc
first_four (a ∷ b ∷ c ∷ []) some whole = cc
first_four (a ∷ b ∷ c ∷ d ∷ rest) some whole =
    let counted : ((length (a ∷ b ∷ c ∷ d ∷ rest) % 4) == 0) ≡ true = rw whole refl in
    let there : nat_lt 0 (length (a ∷ b ∷ c ∷ d ∷ rest)) ≡ true = grind (arith, nat_tests) in
    rw (counted, there) refl
