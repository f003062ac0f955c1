-- Pairs by blocks: what front and rest spell, and zeros.
use Rattle.std.proofs.Common.{◌≡◌, ℕ, ◌/◌, ◌%◌, ◌≤◌, true, inl, inr, List, [], ◌∷◌, ◌++◌, length, take, drop, replicate, Option, Some, None, Result, Ok, Err, option_map, option_and_then, refl, sym, ap, ◌∙◌, arith, flat_map, append_assoc}
use Rattle.std.specs.Result.{result_ok}
use Rattle.std.proofs.lemmas.Bool.{cases_eq}
use Rattle.std.proofs.lemmas.List.{take-append-drop, length-take-le}
use Rattle.std.proofs.lemmas.Grind.{flat_map-append}
use Rattle.std.specs.Prelude.{MatchResult}
use Rattle.hex.specs.declared.error.FromHexError.{FromHexError}
use Rattle.hex.specs.Hex.{decode_sized}
use Rattle.hex.proofs.HexLemmas.{decode_of-odd, decode_sized-odd, decode_sized-twice}
use Rattle.net_types.specs.HexText.{byte_hex, hex_byte_at, hex_digit_at, lacks_capitals, pairs_at}
use Rattle.net_types.proofs.HexLaws.{capital_pairs, pairs_decoded}

pub block_decoded : (text : List ℕ) → length text ≡ 32 → lacks_capitals text ≡ true → pairs_at text ≡ result_ok (decode_sized text 16)
block_decoded text len small = pairs_decoded text small ∙ ap result_ok (sym (decode_sized-twice text 16 len))

pub tail_decoded : (text : List ℕ) → lacks_capitals text ≡ true → pairs_at text ≡ result_ok (decode_sized text (length text / 2))
tail_decoded text small =
    pairs_decoded text small
    ∙ ap result_ok (elim (cases_eq (length text % 2) 1) [
      | inl odd ↦ decode_of-odd text odd ∙ sym (decode_sized-odd text (length text / 2) odd)
      | inr other ↦ sym (decode_sized-twice text (length text / 2) (omega arith))
    ])

-- what was decoded into room stands there, and nothing was where the call failed
pub written : (text : List ℕ) (n : ℕ) (r : Result Unit FromHexError) (out : List ℕ)
    → lacks_capitals text ≡ true → n ≡ length text / 2
    → MatchResult (decode_sized text n) (λ bytes. (r ≡ Ok tt) × (out ≡ bytes)) (λ e. r ≡ Err e)
    → pairs_at text ≡ option_map (λ _. out) (result_ok r)
written text n r out small len w =
    tail_decoded text small
    ∙ ap (λ m. result_ok (decode_sized text m)) (sym len)
    ∙ elim (decode_sized text n) as
    (λ d. MatchResult d (λ bytes. (r ≡ Ok tt) × (out ≡ bytes)) (λ e. r ≡ Err e) → result_ok d ≡ option_map (λ _. out) (result_ok r)) [
      | Ok bytes ↦ λ given. ap (λ b. Some b) (sym given.1) ∙ ap (λ q. option_map (λ _. out) (result_ok q)) (sym given.0)
      | Err e ↦ λ given. ap (λ q. option_map (λ _. out) (result_ok q)) (sym given)
    ] w

pub appended_some : (items text out : List ℕ) → pairs_at text ≡ Some out → option_map (λ more. items ++ more) (pairs_at text) ≡ Some (items ++ out)
appended_some items text out e = ap (option_map (λ more. items ++ more)) e

pub appended_none : (items text : List ℕ) → pairs_at text ≡ None → option_map (λ more. items ++ more) (pairs_at text) ≡ None
appended_none items text e = ap (option_map (λ more. items ++ more)) e

-- a block of the digit zero spells zeros
pub zeros_read : (text : List ℕ) → text ≡ replicate 32 48 → pairs_at text ≡ Some (replicate 16 0)
unfolding hex_byte_at hex_digit_at
zeros_read text zeros = ap pairs_at zeros

-- what a block of digits gives
pub ruleset block_steps = (block_decoded, zeros_read, capital_pairs)

-- what a front and a rest give, where both are there
abbrev both : Option (List ℕ) → Option (List ℕ) → Option (List ℕ)
both front rest = option_and_then (λ xs. option_map (λ ys. xs ++ ys) rest) front

-- a byte in front of bytes, where both are there
abbrev in_front : Option ℕ → Option (List ℕ) → Option (List ℕ)
in_front byte bytes = option_and_then (λ b. option_and_then (λ bs. Some (b ∷ bs)) bytes) byte

none_behind : (rest : Option (List ℕ)) → rest ≡ both (Some []) rest
none_behind None = refl
none_behind (Some ys) = refl

in_front_both : (byte : Option ℕ) (front rest : Option (List ℕ)) → in_front byte (both front rest) ≡ both (in_front byte front) rest
in_front_both None front rest = refl
in_front_both (Some b) None rest = refl
in_front_both (Some b) (Some xs) None = refl
in_front_both (Some b) (Some xs) (Some ys) = refl

pairs-append : (front rest : List ℕ) → length front % 2 ≡ 0 → pairs_at (front ++ rest) ≡ both (pairs_at front) (pairs_at rest)
pairs-append [] rest even = none_behind (pairs_at rest)
pairs-append (x ∷ []) rest even = absurd (omega (arith, even))
pairs-append (x ∷ y ∷ front) rest even =
    ap (in_front (hex_byte_at (x ∷ y ∷ []))) (pairs-append front rest (omega (arith, even)))
    ∙ in_front_both (hex_byte_at (x ∷ y ∷ [])) (pairs_at front) (pairs_at rest)

pairs_cut : (text : List ℕ) → 32 ≤ length text → pairs_at text ≡ both (pairs_at (take 32 text)) (pairs_at (drop 32 text))
pairs_cut text long =
    let len : length (take 32 text) ≡ 32 = length-take-le 32 text long in
    ap pairs_at (sym (take-append-drop 32 text)) ∙ pairs-append (take 32 text) (drop 32 text) (omega (arith, len))

further : (items more : List ℕ) (rest : Option (List ℕ))
    → option_map (λ xs. (items ++ more) ++ xs) rest ≡ option_map (λ xs. items ++ xs) (both (Some more) rest)
further items more None = refl
further items more (Some xs) = ap (λ ys. Some ys) (append_assoc items more xs)

pub block_more : (items more text : List ℕ) (whole : Option (List ℕ))
    → 32 ≤ length text → Some more ≡ pairs_at (take 32 text) → option_map (λ xs. items ++ xs) (pairs_at text) ≡ whole
    → option_map (λ xs. (items ++ more) ++ xs) (pairs_at (drop 32 text)) ≡ whole
block_more items more text whole long front e =
    further items more (pairs_at (drop 32 text))
    ∙ ap (λ f. option_map (λ xs. items ++ xs) (both f (pairs_at (drop 32 text)))) front
    ∙ ap (option_map (λ xs. items ++ xs)) (sym (pairs_cut text long))
    ∙ e

pub block_none : (items text : List ℕ) (whole : Option (List ℕ))
    → 32 ≤ length text → None ≡ pairs_at (take 32 text) → option_map (λ xs. items ++ xs) (pairs_at text) ≡ whole → None ≡ whole
block_none items text whole long front e =
    ap (λ f. option_map (λ xs. items ++ xs) (both f (pairs_at (drop 32 text)))) front
    ∙ ap (option_map (λ xs. items ++ xs)) (sym (pairs_cut text long))
    ∙ e

pub pairs_more : (items bytes : List ℕ) → (items ++ flat_map byte_hex (take 16 bytes)) ++ flat_map byte_hex (drop 16 bytes) ≡ items ++ flat_map byte_hex bytes
pairs_more items bytes =
    append_assoc items _ _
    ∙ ap (λ more. items ++ more) (sym (flat_map-append byte_hex (take 16 bytes) (drop 16 bytes)) ∙ ap (flat_map byte_hex) (take-append-drop 16 bytes))
