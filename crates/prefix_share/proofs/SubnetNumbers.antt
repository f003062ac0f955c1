-- The numbers of prefixes and their subnets: sums and bits.
use Rattle.std.proofs.Common.{◌≡◌, ℕ, ◌+◌, ◌*◌, ◌-◌, ◌/◌, ◌%◌, ◌^◌, ◌<◌, ◌≤◌, bit_and, sym, ap, ◌∙◌, arith}
use Rattle.std.proofs.Math.Nat.{mul-lt-mul_of_pos_right, mul-le-mul_right, pow-le-pow_right}
use Rattle.std.proofs.Math.Pow.{shr_lt}
use Rattle.std.proofs.lemmas.Nat.{div-add-mod', pow-add, pow_pos}
use Rattle.std.proofs.lemmas.Nat.Bits.{and_high_mask, ones_shr}

-- a number without its remainder
pub without_rest : (n d : ℕ) → n - n % d ≡ n / d * d
without_rest n d = let parts : n / d * d + n % d ≡ n = div-add-mod' n d in omega arith

pub two_pos : 0 < 2
two_pos = omega arith

pub first_address : (n len : ℕ) → len < 128 → n < 2 ^ 128 → bit_and n (2 ^ 128 - 1 - (2 ^ 128 - 1) / 2 ^ len) ≡ n - n % 2 ^ (128 - len)
first_address n len small fits =
    let shifted : (2 ^ 128 - 1) / 2 ^ len ≡ 2 ^ (128 - len) - 1 = ones_shr 128 len (omega arith) in
    let some : 0 < 2 ^ (128 - len) = pow_pos (128 - len) in
    let fewer : 128 - len ≤ 128 = omega arith in
    let most : 2 ^ (128 - len) ≤ 2 ^ 128 = pow-le-pow_right two_pos fewer in
    let mask : 2 ^ 128 - 1 - (2 ^ 128 - 1) / 2 ^ len ≡ 2 ^ 128 - 2 ^ (128 - len) = omega arith in
    ap (λ m. bit_and n m) mask ∙ and_high_mask 128 (128 - len) (omega arith) n fits ∙ sym (without_rest n (2 ^ (128 - len)))

-- the addresses of a prefix, subnet by subnet
pub counts : (prefix_len len : ℕ) → prefix_len ≤ len → len ≤ 128 → 2 ^ (128 - prefix_len) ≡ 2 ^ (len - prefix_len) * 2 ^ (128 - len)
counts prefix_len len longer most =
    let bits : 128 - prefix_len ≡ (len - prefix_len) + (128 - len) = omega arith in
    ap (λ k. 2 ^ k) bits ∙ pow-add 2 (len - prefix_len) (128 - len)

pub shifted_below : (sla prefix_len len : ℕ) → prefix_len ≤ len → len ≤ 128 → sla < 2 ^ (len - prefix_len) → sla * 2 ^ (128 - len) < 2 ^ (128 - prefix_len)
shifted_below sla prefix_len len longer most small =
    let some : 0 < 2 ^ (128 - len) = pow_pos (128 - len) in
    let product : sla * 2 ^ (128 - len) < 2 ^ (len - prefix_len) * 2 ^ (128 - len) = mul-lt-mul_of_pos_right small some in
    let all = counts prefix_len len longer most in
    omega (arith, product, all)

-- a number that is added below a prefix stays within the addresses
pub sum_fits : (n added prefix_len : ℕ) → n < 2 ^ 128 → prefix_len ≤ 128 → added < 2 ^ (128 - prefix_len) → (n - n % 2 ^ (128 - prefix_len)) + added < 2 ^ 128
sum_fits n added prefix_len fits most small =
    let parts : n - n % 2 ^ (128 - prefix_len) ≡ n / 2 ^ (128 - prefix_len) * 2 ^ (128 - prefix_len) = without_rest n _ in
    let bits : prefix_len + (128 - prefix_len) ≡ 128 = omega arith in
    let whole : 2 ^ 128 ≡ 2 ^ prefix_len * 2 ^ (128 - prefix_len) = ap (λ k. 2 ^ k) (sym bits) ∙ pow-add 2 prefix_len (128 - prefix_len) in
    let bound : n < 2 ^ (prefix_len + (128 - prefix_len)) = rw bits fits in
    let leading : n / 2 ^ (128 - prefix_len) < 2 ^ prefix_len = shr_lt prefix_len (128 - prefix_len) bound in
    let product : (n / 2 ^ (128 - prefix_len) + 1) * 2 ^ (128 - prefix_len) ≤ 2 ^ prefix_len * 2 ^ (128 - prefix_len) = mul-le-mul_right _ (omega arith) in
    omega (arith, parts, whole, product, small)

-- a number of 32 bits is below a greater power
pub wide : (n bits : ℕ) → n < 2 ^ 32 → 32 ≤ bits → n < 2 ^ bits
wide n bits fits most =
    let more : 2 ^ 32 ≤ 2 ^ bits = pow-le-pow_right two_pos most in
    omega (arith, fits, more)
