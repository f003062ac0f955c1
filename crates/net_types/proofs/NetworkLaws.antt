-- Networks: masks tell their length, and addresses with one prefix have one network.
use Rattle.std.proofs.Common.{◌≡◌, ℕ, ◌+◌, ◌*◌, ◌-◌, ◌/◌, ◌%◌, ◌^◌, ◌<◌, ◌≤◌, sym, ap, ◌∙◌, arith}
use Rattle.std.specs.Int.Count.{leading_unique}
use Rattle.std.proofs.Math.Nat.{mul-div_cancel, pow-le-pow_right}
use Rattle.std.proofs.lemmas.Bool.{eqb-true, eq-eqb}
use Rattle.std.proofs.lemmas.Nat.{div-add-mod', pow_pos}
use Rattle.std.proofs.lemmas.Nat.Bits.{and_high_mask}
use Rattle.net_types.specs.declared.address.Ip4.{Ip4}
use Rattle.net_types.specs.declared.address.Net4.{Net4}
use Rattle.net_types.specs.AddressText.{FitsNet4}
use Rattle.net_types.specs.Networks.{address_count, mask_of, mask_len, IsMasked, Shares}

-- a number without its remainder
without_rest : (n d : ℕ) → n - n % d ≡ n / d * d
without_rest n d = let parts : n / d * d + n % d ≡ n = div-add-mod' n d in omega arith

pub masked : (net : Net4) → FitsNet4 net → IsMasked net
masked net fits =
    let host : 32 - net.len ≤ 32 = omega arith in
    without_rest net.ip.number (address_count net.len) ∙ sym (and_high_mask 32 (32 - net.len) host net.ip.number fits.address)

at_most : (k : ℕ) → k ≤ 32 → 2 ^ k ≤ 2 ^ 32
at_most k small = let two : 0 < 2 = omega arith in pow-le-pow_right two small

pub told : (len : ℕ) → len ≤ 32 → mask_len (mask_of len) ≡ len
told len small =
    let some : 0 < address_count len = pow_pos (32 - len) in
    let most : address_count len ≤ 2 ^ 32 = at_most (32 - len) (omega arith) in
    let zeros : 2 ^ 32 - 1 - (2 ^ 32 - address_count len) ≡ address_count len - 1 = omega arith in
    sym (leading_unique 32 (2 ^ 32 - 1 - (2 ^ 32 - address_count len)) len (32 - len) (omega arith) (omega arith) (omega arith))

pub shared : (ip : Ip4) (net : Net4) → Shares ip net
shared ip net = (
  (λ within. ap (λ n. record { ip = record { number = n }; len = net.len })
      (without_rest ip.number size ∙ ap (λ q. q * size) (eqb-true _ _ within) ∙ sym (without_rest net.ip.number size))),
  (λ same. eq-eqb _ _ (quotients (sym (without_rest ip.number size) ∙ ap (λ n. n.ip.number) same ∙ without_rest net.ip.number size))),
)
  where
    size : ℕ
    size = address_count net.len

    quotients : ip.number / size * size ≡ net.ip.number / size * size → ip.number / size ≡ net.ip.number / size
    quotients same =
        let some : 0 < size = pow_pos (32 - net.len) in
        sym (mul-div_cancel (ip.number / size) some) ∙ ap (λ n. n / size) same ∙ mul-div_cancel (net.ip.number / size) some
