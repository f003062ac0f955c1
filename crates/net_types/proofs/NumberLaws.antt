-- Decimal numbers: what is read is the one text of its value.
use Rattle.std.proofs.Common.{◌≡◌, ℕ, ◌<◌, ◌≤◌, ◌^◌, true, false, cond, ◌&&◌, List, [], ◌∷◌, length, get_or, Option, Some, None, Result, Ok, Err, refl, sym, ap, ◌∙◌, subst, arith, rules, eqb, ltb, ◌⊎◌, inl, inr}
use Rattle.std.specs.Char.{is_ascii_digit}
use Rattle.std.specs.Fmt.{decimal}
use Rattle.std.specs.List.{list_all}
use Rattle.std.specs.Result.{result_ok, OkIff}
use Rattle.std.specs.Str.{IsUtf8}
use Rattle.std.specs.Str.Parse.{digits_value, ParsesUnsigned}
use Rattle.std.proofs.lemmas.Bool.{and_parts, and_from, ltb-true, lt-ltb, eqb-true, eqb-false, eq-eqb, cases_lt}
use Rattle.std.proofs.lemmas.Fmt.{decimal-digits_value, decimal_nonempty, first_decimal, length-decimal-le, decimal_digit, digits_decimal, digits_value-decimal, IsAscii-from_digits}
use Rattle.std.proofs.lemmas.Str.{IsUtf8-from_ascii}
use Rattle.std.proofs.lemmas.Str.Parse.{IsNumeralModel, numerals_by_value, parse_digits}
use Rattle.net_types.specs.Reads.{Reads}
use Rattle.net_types.specs.Numbers.{is_numeral, number_at}

pub own : IsNumeralModel (λ ds. list_all is_ascii_digit ds ≡ true) (digits_value 10)
own = numerals_by_value _ (search rules)

pub record Numeral (text : List ℕ) : Type 0 where
  pub digits : list_all is_ascii_digit text ≡ true
  pub some : 0 < length text
  pub plain : get_or text 0 0 ≡ 48 → length text ≡ 1
  pub short : length text ≤ 20

pub numeral_is : (text : List ℕ) → is_numeral text ≡ true → Numeral text
unfolding is_numeral
numeral_is text e =
    elim (eqb (get_or text 0 0) 48) as
    (λ b. eqb (get_or text 0 0) 48 ≡ b → cond b (eqb (length text) 1) (ltb 0 (length text) && ltb (length text) 21 && list_all is_ascii_digit text) ≡ true
    → Numeral text) [
      | true ↦ λ t q. zero_is text (eqb-true _ _ t) (eqb-true _ _ q)
      | false ↦ λ t q.
          let outer = and_parts (ltb 0 (length text) && ltb (length text) 21) _ q in
          let inner = and_parts (ltb 0 (length text)) _ outer.0 in
          let some : 0 < length text = ltb-true _ _ inner.0 in
          let short : length text < 21 = ltb-true _ _ inner.1 in
          record { digits = outer.1; some = some; plain = λ first. absurd (eqb-false _ _ t first); short = omega arith }
    ] refl e
  where
    zero_is : (text : List ℕ) → get_or text 0 0 ≡ 48 → length text ≡ 1 → Numeral text
    zero_is [] first one = absurd (omega arith)
    zero_is (c ∷ []) first one =
        let digit : c ≡ 48 = first in
        record { digits = rw digit refl; some = omega arith; plain = λ _. one; short = omega arith }
    zero_is (c ∷ d ∷ ds) first one = absurd (omega arith)

pub is_a_numeral : (text : List ℕ) → Numeral text → is_numeral text ≡ true
unfolding is_numeral
is_a_numeral text n =
    elim (eqb (get_or text 0 0) 48) as
    (λ b. eqb (get_or text 0 0) 48 ≡ b → cond b (eqb (length text) 1) (ltb 0 (length text) && ltb (length text) 21 && list_all is_ascii_digit text) ≡ true) [
      | true ↦ λ t. eq-eqb _ _ (n.plain (eqb-true _ _ t))
      | false ↦ λ t. and_from _ _ (and_from _ _ (lt-ltb _ _ n.some) (let short : length text < 21 = omega arith in lt-ltb _ _ short)) n.digits
    ] refl

pub record IsNumber (limit : ℕ) (text : List ℕ) (n : ℕ) : Type 0 where
  pub numeral : is_numeral text ≡ true
  pub value : digits_value 10 text ≡ n
  pub below : n < limit

pub number_some : (limit : ℕ) (text : List ℕ) (n : ℕ) → number_at limit text ≡ Some n → IsNumber limit text n
unfolding number_at
number_some limit text n e =
    elim (is_numeral text && ltb (digits_value 10 text) limit) as
    (λ b. (is_numeral text && ltb (digits_value 10 text) limit) ≡ b → cond b (Some (digits_value 10 text)) None ≡ Some n → IsNumber limit text n) [
      | true ↦ λ t q.
          let parts = and_parts (is_numeral text) _ t in
          let value : digits_value 10 text ≡ n = cc in
          record { numeral = parts.0; value = value; below = subst (λ m. m < limit) value (ltb-true _ _ parts.1) }
      | false ↦ λ t q. let never : ⊥ = cc in absurd never
    ] refl e

pub number_from : (limit : ℕ) (text : List ℕ) (n : ℕ) → IsNumber limit text n → number_at limit text ≡ Some n
unfolding number_at
number_from limit text n is =
    let small : ltb (digits_value 10 text) limit ≡ true = lt-ltb _ _ (subst (λ m. m < limit) (sym is.value) is.below) in
    rw (is.numeral, small) (ap (λ m. Some m) is.value)

pub number_reads : (limit : ℕ) → limit ≤ 2 ^ 64 → Reads decimal (λ n. n < limit) (number_at limit)
number_reads limit small = record {
  sound = λ text n e. sound_of text n (number_some limit text n e);
  whole = λ n below.
      let room : n < 2 ^ 64 = omega arith in
      number_from limit (decimal n) n (record {
        numeral = is_a_numeral (decimal n) (decimal_numeral n room);
        value = digits_value-decimal own n room;
        below = below;
      });
}
  where
    sound_of : (text : List ℕ) (n : ℕ) → IsNumber limit text n → (text ≡ decimal n) × (n < limit)
    sound_of text n is =
        let num = numeral_is text is.numeral in
        let room : digits_value 10 text < 2 ^ 64 = let v = is.value in let b = is.below in omega arith in
        (sym (decimal-digits_value own text num.digits num.some num.plain room) ∙ ap decimal is.value, is.below)

    decimal_numeral : (n : ℕ) → n < 2 ^ 64 → Numeral (decimal n)
    decimal_numeral n room = record {
      digits = digits_decimal own n room;
      some = decimal_nonempty n room;
      plain = λ first. plain_of n room first (cases_lt 0 n);
      short = length-decimal-le 20 n (omega arith) (omega arith) room;
    }
      where
        plain_of : (n : ℕ) → n < 2 ^ 64 → get_or (decimal n) 0 0 ≡ 48 → (0 < n) ⊎ (n ≤ 0) → length (decimal n) ≡ 1
        plain_of n room first (inl above) = absurd (omega (arith, first_decimal n above room))
        plain_of n room first (inr none) = ap length (decimal_digit n (omega arith))

-- ---- what the code's steps give

pub numeral_text : (text : List ℕ) → is_numeral text ≡ true → IsUtf8 text
numeral_text text e = IsUtf8-from_ascii text (IsAscii-from_digits text (own.to text (numeral_is text e).digits))

pub no_numeral : (limit : ℕ) (text : List ℕ) → is_numeral text ≡ false → number_at limit text ≡ None
unfolding number_at
no_numeral limit text e = rw e refl

pub number_parsed : {E : Type 0} (text : List ℕ) (r : Result ℕ E) → is_numeral text ≡ true → ParsesUnsigned 64 10 text r → result_ok r ≡ number_at (2 ^ 64) text
number_parsed text r e parsed = of_result r (parse_digits own 64 text r parsed (numeral_is text e).digits)
  where
    of_result : {E : Type 0} (r : Result ℕ E) → OkIff r ((0 < length text) × (digits_value 10 text < 2 ^ 64)) (digits_value 10 text)
        → result_ok r ≡ number_at (2 ^ 64) text
    of_result (Ok n) is = sym (number_from (2 ^ 64) text n (record { numeral = e; value = sym is.1; below = subst (λ m. m < 2 ^ 64) (sym is.1) is.0.1 }))
    of_result (Err f) is = too_large is
      where
        too_large : ¬ ((0 < length text) × (digits_value 10 text < 2 ^ 64)) → None ≡ number_at (2 ^ 64) text
        too_large is = none_of (number_at (2 ^ 64) text) refl
          where
            none_of : (o : Option ℕ) → number_at (2 ^ 64) text ≡ o → None ≡ number_at (2 ^ 64) text
            none_of None was = sym was
            none_of (Some n) was =
                let num = number_some (2 ^ 64) text n was in
                absurd (is ((numeral_is text e).some, subst (λ m. m < 2 ^ 64) (sym num.value) num.below))

pub number_limited : (limit : ℕ) (text : List ℕ) (n : ℕ) → number_at (2 ^ 64) text ≡ Some n → n < limit → number_at limit text ≡ Some n
number_limited limit text n e below =
    let is = number_some (2 ^ 64) text n e in
    number_from limit text n (record { numeral = is.numeral; value = is.value; below = below })

pub number_too_large : (limit : ℕ) (text : List ℕ) (n : ℕ) → number_at (2 ^ 64) text ≡ Some n → limit ≤ n → number_at limit text ≡ None
number_too_large limit text n e large = none_of (number_at limit text) refl
  where
    none_of : (o : Option ℕ) → number_at limit text ≡ o → number_at limit text ≡ None
    none_of None was = was
    none_of (Some m) was =
        let one = number_some limit text m was in
        let other = number_some (2 ^ 64) text n e in
        absurd (let a = one.value in let b = other.value in let c = one.below in omega arith)

pub number_none : (limit : ℕ) (text : List ℕ) → limit ≤ 2 ^ 64 → number_at (2 ^ 64) text ≡ None → number_at limit text ≡ None
number_none limit text small e = none_of (number_at limit text) refl
  where
    none_of : (o : Option ℕ) → number_at limit text ≡ o → number_at limit text ≡ None
    none_of None was = was
    none_of (Some m) was =
        let one = number_some limit text m was in
        let whole : number_at (2 ^ 64) text ≡ Some m =
        number_limited (2 ^ 64) text m
        (number_from (2 ^ 64) text m (record { numeral = one.numeral; value = one.value; below = (let b = one.below in omega arith) }))
        (let b = one.below in omega arith) in
        cc
