-- The interfaces with carrier, read from their list.
use Rattle.std.proofs.Common.{◌≡◌, ℕ, zero, suc, ◌+◌, ◌-◌, ◌*◌, ◌/◌, ◌%◌, ◌^◌, ◌<◌, Bool, true, false, eqb, List, [], ◌∷◌, filter, refl, sym, ◌∙◌, ap, subst, ◌≢◌, arith, eqb-true, cond}
use Rattle.std.proofs.lemmas.Bool.{eqb-false}
use Rattle.std.proofs.Math.Nat.{div-div-eq-div-mul}
use Rattle.std.proofs.lemmas.Grind.{pow_more}
use Rattle.std.specs.Prelude.{codes, option_map, Some}
use Rattle.std.specs.List.{AllByRecursion}
use Rattle.net_types.specs.Numbers.{number_at, is_numeral}
use Rattle.net_types.specs.Cutting as Cutting
use Rattle.net_types.specs.Cutting.{list_at}
use Rattle.net_types.proofs.ListLaws.{list_reads}
use Rattle.net_types.proofs.NumberLaws.{number_reads}
use Rattle.net_types.proofs.MarkLaws.{decimal_lacks}
use Rattle.script_model.specs.IfaceSets.{is_up}
use Rattle.script_model.specs.Lines.{numbers_from, list_text, up_text}
use Rattle.transcript_text.specs.LineFields.{bits_of, numbers_at}
use Rattle.transcript_text.proofs.FormLaws.{told_other}

numbers_some : (i : ℕ) (rest : List ℕ) → AllByRecursion (λ n. n < 65) (i ∷ rest) → numbers_at (list_text (i ∷ rest)) ≡ Some (i ∷ rest)
unfolding numbers_at list_at number_at is_numeral Cutting.list_text
numbers_some i rest small =
    let law = list_reads 44 (number_reads 65 (omega arith)) (λ n fits. decimal_lacks n 44 (omega (arith, fits)) refl) in
    told_other (list_at 44 (number_at 65)) (codes "-") [] (list_text (i ∷ rest)) (i ∷ rest) refl
    (law.whole (i ∷ rest) (record { some = λ e. (cc); each = small }))

numbers_whole : (list : List ℕ) → AllByRecursion (λ n. n < 65) list → numbers_at (list_text list) ≡ Some list
unfolding numbers_at
numbers_whole [] small = refl
numbers_whole (i ∷ rest) small = numbers_some i rest small

listed_small : (p : ℕ → Bool) (first n : ℕ) → first + n < 66 → AllByRecursion (λ i. i < 65) (filter p (numbers_from first n))
listed_small p first zero h = tt
listed_small p first (suc n) h =
    let rest : AllByRecursion (λ i. i < 65) (filter p (numbers_from (suc first) n)) = listed_small p (suc first) n (omega arith) in
    elim (p first) as (λ b. AllByRecursion (λ i. i < 65) (cond b (first ∷ filter p (numbers_from (suc first) n)) (filter p (numbers_from (suc first) n)))) [
      | true ↦ (omega arith, rest)
      | false ↦ rest
    ]

odd_product : (p h : ℕ) → p + p * 2 * h ≡ p * (2 * h + 1)
odd_product p h = omega arith

even_product : (p h : ℕ) → p * 2 * h ≡ p * (2 * h)
even_product p h = omega arith

-- one bit more
bit_more : (q p : ℕ) → q % 2 ≡ 1 → p + p * 2 * (q / 2) ≡ p * q
bit_more q p odd = let e : 2 * (q / 2) + 1 ≡ q = omega arith in odd_product p (q / 2) ∙ ap (λ z. p * z) e

bit_none : (q p : ℕ) → q % 2 ≢ 1 → p * 2 * (q / 2) ≡ p * q
bit_none q p even = let e : 2 * (q / 2) ≡ q = omega arith in even_product p (q / 2) ∙ ap (λ z. p * z) e

half : (up k : ℕ) → up / 2 ^ (k + 1) ≡ up / 2 ^ k / 2
half up k = ap (λ z. up / z) (pow_more 2 k) ∙ sym (div-div-eq-div-mul up (2 ^ k) 2)

bits_step : (up k : ℕ) (rest : List ℕ) (b : Bool) → eqb (up / 2 ^ k % 2) 1 ≡ b → bits_of rest ≡ 2 ^ (k + 1) * (up / 2 ^ (k + 1))
    → bits_of (cond b ((k + 1) ∷ rest) rest) ≡ 2 ^ k * (up / 2 ^ k)
unfolding bits_of
bits_step up k rest true e ih =
    let before : k + 1 - 1 ≡ k = omega arith in
    let rest_is : bits_of rest ≡ 2 ^ k * 2 * (up / 2 ^ k / 2) = ih ∙ ap (λ z. z * (up / 2 ^ (k + 1))) (pow_more 2 k) ∙ ap (λ z. 2 ^ k * 2 * z) (half up k) in
    ap (λ z. 2 ^ z + bits_of rest) before ∙ ap (λ z. 2 ^ k + z) rest_is ∙ bit_more (up / 2 ^ k) (2 ^ k) (eqb-true _ _ e)
bits_step up k rest false e ih =
    ih ∙ ap (λ z. z * (up / 2 ^ (k + 1))) (pow_more 2 k) ∙ ap (λ z. 2 ^ k * 2 * z) (half up k) ∙ bit_none (up / 2 ^ k) (2 ^ k) (eqb-false _ _ e)

bits_from : (up k n : ℕ) → up / 2 ^ k < 2 ^ n → bits_of (filter (is_up up) (numbers_from (k + 1) n)) ≡ 2 ^ k * (up / 2 ^ k)
unfolding bits_of
bits_from up k zero h =
    let none : up / 2 ^ k ≡ 0 = omega arith in
    let product : 0 ≡ 2 ^ k * 0 = omega arith in
    product ∙ ap (λ z. 2 ^ k * z) (sym none)
bits_from up k (suc n) h =
    let next : k + 1 + 1 ≡ suc (k + 1) = omega arith in
    let after : suc n ≡ n + 1 = omega arith in
    let wide : 2 ^ suc n ≡ 2 ^ n * 2 = ap (λ z. 2 ^ z) after ∙ pow_more 2 n in
    let halved : up / 2 ^ (k + 1) ≡ up / 2 ^ k / 2 = half up k in
    let small : up / 2 ^ (k + 1) < 2 ^ n = omega arith in
    let ih : bits_of (filter (is_up up) (numbers_from (suc (k + 1)) n)) ≡ 2 ^ (k + 1) * (up / 2 ^ (k + 1)) =
    subst (λ m. bits_of (filter (is_up up) (numbers_from m n)) ≡ 2 ^ (k + 1) * (up / 2 ^ (k + 1))) next (bits_from up (k + 1) n small) in
    let before : k + 1 - 1 ≡ k = omega arith in
    let same : eqb (up / 2 ^ k % 2) 1 ≡ is_up up (k + 1) = ap (λ z. eqb (up / 2 ^ z % 2) 1) (sym before) in
    bits_step up k (filter (is_up up) (numbers_from (suc (k + 1)) n)) (is_up up (k + 1)) same ih

pub up_whole : (up : ℕ) → up < 2 ^ 64 → option_map bits_of (numbers_at (up_text up)) ≡ Some up
unfolding up_text
up_whole up small =
    let all : up / 2 ^ 0 ≡ up = omega arith in
    let within : up / 2 ^ 0 < 2 ^ 64 = rw all small in
    ap (option_map bits_of) (numbers_whole (filter (is_up up) (numbers_from 1 64)) (listed_small (is_up up) 1 64 (omega arith)))
    ∙ ap Some (bits_from up 0 64 within ∙ (omega arith))
