-- Bytes are whole options or have a first one that breaks the rule.
use Rattle.std.proofs.Common.{◌≡◌, ℕ, zero, suc, ◌+◌, ◌<◌, ◌≤◌, ◌^◌, ◌⊎◌, inl, inr, Bool, true, false, List, [], ◌∷◌, ◌++◌, length, take, drop, get_or, Option, Some, None, refl, sym, ap, subst, ◌∙◌, arith, eqb, leb}
use Rattle.std.specs.Prelude.{◌&&◌, ◌||◌}
use Rattle.std.proofs.lemmas.Bool.{cases_lt, leb-true}
use Rattle.std.proofs.lemmas.Nat.{be_bytes_2}
use Rattle.std.proofs.lemmas.List.{append-nil, length-drop, length-take-le, take-append-drop, get_or-drop}
use Rattle.v6_options.specs.OptionArea.{has_form, word_in}
use Rattle.v6_options.specs.Nesting.{fields_len}
use Rattle.v6_options.specs.OptionGrammar.{word_text, option_text, FitsOption, nothing, plain, holder, tree_text, Breaks, no_header, too_long, no_form, within, behind, IsTree, IsBroken, AreBytes}
use Rattle.v6_options.proofs.Fronts.{cases_bool}

abbrev Shape : List ℕ → Type 0
Shape area = IsTree area ⊎ IsBroken area

bytes_taken : (n : ℕ) (xs : List ℕ) → AreBytes xs → AreBytes (take n xs)
bytes_taken zero xs h i = omega arith
bytes_taken (suc n) [] h i = omega arith
bytes_taken (suc n) (x ∷ xs) h zero = h zero
bytes_taken (suc n) (x ∷ xs) h (suc i) = bytes_taken n xs (λ j. h (suc j)) i

bytes_dropped : (n : ℕ) (xs : List ℕ) → AreBytes xs → AreBytes (drop n xs)
bytes_dropped n xs h i = rw get_or-drop (h (n + i))

-- a number of two bytes, and its bytes
record IsWord (a b : ℕ) : Type 0 where
  spelled : word_text (word_in 0 (a ∷ b ∷ [])) ≡ a ∷ b ∷ []
  small : word_in 0 (a ∷ b ∷ []) < 2 ^ 16

word_of : (a b : ℕ) → a < 256 → b < 256 → IsWord a b
word_of a b a_fits b_fits = record {
  spelled = be_bytes_2 (a ∷ b ∷ []) (word_in 0 (a ∷ b ∷ [])) refl bytes refl;
  small = omega (arith, a_fits, b_fits);
}
  where
    bytes : (i : ℕ) → get_or (a ∷ b ∷ []) i 0 < 256
    bytes zero = a_fits
    bytes (suc zero) = b_fits
    bytes (suc (suc i)) = omega arith

same_number : (a b : ℕ) → Some a ≡ Some b → a ≡ b
same_number a b e = cc

first_true : (a b : Bool) → (a && b) ≡ true → a ≡ true
first_true true b e = refl
first_true false b e = e

-- an option with the form of its code has room for the fixed fields
form_fields : (code fields : ℕ) (value : List ℕ) → has_form code value ≡ true → fields_len code ≡ Some fields → fields ≤ length value
form_fields code fields value form e =
    elim (cases_bool (eqb code 3 || eqb code 25)) [
      | inl ia ↦
          let len : Some 12 ≡ Some fields = rw ia at e in
          let room : leb 12 (length value) ≡ true = rw ia at form in
          omega (arith, leb-true 12 (length value) room, same_number 12 fields len)
      | inr no_ia ↦ elim (cases_bool (eqb code 5)) [
        | inl address ↦
            let len : Some 24 ≡ Some fields = rw (no_ia, address) at e in
            let room : leb 24 (length value) ≡ true = rw (no_ia, address) at form in
            omega (arith, leb-true 24 (length value) room, same_number 24 fields len)
        | inr no_address ↦ elim (cases_bool (eqb code 26)) [
          | inl prefix ↦
              let len : Some 25 ≡ Some fields = rw (no_ia, no_address, prefix) at e in
              let room : (leb 25 (length value) && leb (get_or value 8 0) 128) ≡ true = rw (no_ia, no_address, prefix) at form in
              omega (arith, leb-true 25 (length value) (first_true (leb 25 (length value)) (leb (get_or value 8 0) 128) room), same_number 25 fields len)
          | inr no_prefix ↦ let none : None ≡ Some fields = rw (no_ia, no_address, no_prefix) at e in absurd cc
        ]
      ]
    ]

-- one option and what follows it, where both have a shape
with_plain : (code : ℕ) (value rest : List ℕ) → FitsOption code value → fields_len code ≡ None → Shape rest → Shape (option_text code value ++ rest)
with_plain code value rest fits none (inl whole) =
    inl (plain code value whole.0, ap (λ (xs : List ℕ). option_text code value ++ xs) whole.1, (fits, none, whole.2))
with_plain code value rest fits none (inr broken) =
    let one = plain code value nothing in
    let text : tree_text one ≡ option_text code value = append-nil (option_text code value) in
    inr (
      length (tree_text one) + broken.0,
      subst (λ (xs : List ℕ). Breaks (xs ++ rest) (length (tree_text one) + broken.0)) text (behind one (fits, none, tt) broken.1),
    )

with_holder : (code : ℕ) (fields held rest : List ℕ) → FitsOption code (fields ++ held) → fields_len code ≡ Some (length fields)
    → Shape held → Shape rest → Shape (option_text code (fields ++ held) ++ rest)
with_holder code fields held rest fits e (inr inner) after = inr (4 + length fields + inner.0, within code fields held rest fits e inner.1)
with_holder code fields held rest fits e (inl inner) after =
    subst (λ (xs : List ℕ). Shape (option_text code (fields ++ xs) ++ rest)) (sym inner.1)
    (by_after (subst (λ (xs : List ℕ). FitsOption code (fields ++ xs)) inner.1 fits) after)
  where
    by_after : FitsOption code (fields ++ tree_text inner.0) → Shape rest → Shape (option_text code (fields ++ tree_text inner.0) ++ rest)
    by_after fits (inl whole) =
        inl (
          holder code fields inner.0 whole.0,
          ap (λ (xs : List ℕ). option_text code (fields ++ tree_text inner.0) ++ xs) whole.1,
          (fits, e, inner.2, whole.2),
        )
    by_after fits (inr broken) =
        let one = holder code fields inner.0 nothing in
        let text : tree_text one ≡ option_text code (fields ++ tree_text inner.0) = append-nil (option_text code (fields ++ tree_text inner.0)) in
        inr (
          length (tree_text one) + broken.0,
          subst (λ (xs : List ℕ). Breaks (xs ++ rest) (length (tree_text one) + broken.0)) text (behind one (fits, e, inner.2, tt) broken.1),
        )

-- an option whose value has its form
option_shape : (code : ℕ) (value rest : List ℕ) → FitsOption code value → AreBytes value
    → ((area : List ℕ) → length area ≤ length value → AreBytes area → Shape area) → Shape rest → Shape (option_text code value ++ rest)
option_shape code value rest fits bytes shape after = by_fields (fields_len code) refl
  where
    by_fields : (f : Option ℕ) → fields_len code ≡ f → Shape (option_text code value ++ rest)
    by_fields None e = with_plain code value rest fits e after
    by_fields (Some n) e =
        let room = form_fields code n value fits.2 e in
        let fields = take n value in
        let held = drop n value in
        let whole : fields ++ held ≡ value = take-append-drop n value in
        let size : fields_len code ≡ Some (length fields) = e ∙ ap (λ (k : ℕ). Some k) (sym (length-take-le n value room)) in
        subst (λ (xs : List ℕ). Shape (option_text code xs ++ rest)) whole
        (with_holder code fields held rest (subst (λ (xs : List ℕ). FitsOption code xs) (sym whole) fits) size
        (shape held (omega (arith, length-drop n value)) (bytes_dropped n value bytes)) after)

-- a whole header, and what follows it
header_shape : (code len : ℕ) (more : List ℕ) → code < 2 ^ 16 → len < 2 ^ 16 → AreBytes more
    → ((area : List ℕ) → length area ≤ length more → AreBytes area → Shape area) → Shape (word_text code ++ word_text len ++ more)
header_shape code len more code_fits len_fits bytes shape =
    elim (cases_lt (length more) len) [
      | inl long ↦ inr (0, too_long code len more code_fits len_fits long)
      | inr room ↦
          let size : length (take len more) ≡ len = length-take-le len more room in
          let whole : take len more ++ drop len more ≡ more = take-append-drop len more in
          let text : option_text code (take len more) ++ drop len more ≡ word_text code ++ word_text len ++ more =
          (λ i. word_text code ++ word_text (size i) ++ whole i) in
          subst Shape text (elim (cases_bool (has_form code (take len more))) [
            | inr bad ↦ inr (0, no_form code (take len more) (drop len more) code_fits (omega (arith, size, len_fits)) bad)
            | inl form ↦ option_shape code (take len more) (drop len more) (code_fits, omega (arith, size, len_fits), form) (bytes_taken len more bytes)
                (λ area h. shape area (omega (arith, h, size))) (shape (drop len more) (omega (arith, length-drop len more)) (bytes_dropped len more bytes))
          ])
    ]

shape_within : (n : ℕ) (area : List ℕ) → length area ≤ n → AreBytes area → Shape area
shape_within n [] small bytes = inl (nothing, refl, tt)
shape_within n (a ∷ []) small bytes = inr (0, no_header (omega arith) (omega arith))
shape_within n (a ∷ b ∷ []) small bytes = inr (0, no_header (omega arith) (omega arith))
shape_within n (a ∷ b ∷ c ∷ []) small bytes = inr (0, no_header (omega arith) (omega arith))
shape_within zero (a ∷ b ∷ c ∷ d ∷ more) small bytes = absurd (omega arith)
shape_within (suc n) (a ∷ b ∷ c ∷ d ∷ more) small bytes =
    let code = word_of a b (bytes 0) (bytes 1) in
    let len = word_of c d (bytes 2) (bytes 3) in
    subst Shape (λ i. code.spelled i ++ len.spelled i ++ more)
    (header_shape (word_in 0 (a ∷ b ∷ [])) (word_in 0 (c ∷ d ∷ [])) more code.small len.small (λ i. bytes (suc (suc (suc (suc i)))))
    (λ area h. shape_within n area (omega arith)))

pub option_either : (area : List ℕ) → AreBytes area → IsTree area ⊎ IsBroken area
option_either area bytes = shape_within (length area) area (omega arith) bytes
