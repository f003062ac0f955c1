-- Lower-case pairs: what is read is spelled so, and what is spelled so is read. They are encoded and decoded by `hex`, which reads
-- capital letters too.
use Rattle.std.proofs.Common.{◌≡◌, ℕ, zero, suc, ◌+◌, ◌*◌, ◌/◌, ◌%◌, ◌<◌, Bool, true, false, not, cond, ◌&&◌, inl, inr, List, [], ◌∷◌, ◌++◌, length, get_or, Option, Some, None, option_map, option_and_then, Result, Ok, Err, refl, sym, ap, ◌∙◌, subst, arith, eqb, flat_map, codes, bytes_eq}
use Rattle.std.specs.Char.{digit_char, is_ascii_uppercase}
use Rattle.std.specs.Result.{result_ok}
use Rattle.std.proofs.lemmas.Bool.{and_parts, and_from, and_right, cases_eq, cases_lt, eqb-true, ne_eqb, not-true}
use Rattle.std.proofs.lemmas.Bool.Decides.{nat_tests}
use Rattle.std.proofs.lemmas.Slice.Eq.{bytes_eq-Decides}
use Rattle.hex.specs.Hex.{decode_of, decode_pairs, decode_sized, digit_or_error, encode_lower, encode_with, hex_digit_value, lower_digits, pair_value, ◌>>=◌}
use Rattle.hex.specs.declared.error.FromHexError.{FromHexError}
use Rattle.hex.proofs.HexLemmas.{decode_of-encode_lower, decode_of-even, decode_of-odd, decode_pairs-ok, decode_sized-encode_lower, decode_sized-ok}
use Rattle.net_types.specs.Reads.{Reads}
use Rattle.net_types.specs.Marks.{AreBytes}
use Rattle.net_types.specs.HexText.{byte_hex, hex_text, hex_digit_at, hex_byte_at, lacks_capitals, pairs_at, hex_at}
use Rattle.net_types.proofs.ReadsLaws.{passed, some_same}

digit_spelled : (c n : ℕ) → hex_digit_at c ≡ Some n → c ≡ digit_char n
unfolding hex_digit_at
digit_spelled c n e = grind (arith, nat_tests)

digit_small : (c n : ℕ) → hex_digit_at c ≡ Some n → n < 16
unfolding hex_digit_at
digit_small c n e = grind (arith, nat_tests)

of_digits : (x y high low b : ℕ) → x ≡ digit_char high → high < 16 → y ≡ digit_char low → low < 16 → high * 16 + low ≡ b → (x ∷ y ∷ [] ≡ byte_hex b) × (b < 256)
of_digits x y high low b ex sh ey sl e =
    let one : high ≡ b / 16 = omega arith in
    let two : low ≡ b % 16 = omega arith in
    let first : x ≡ digit_char (b / 16) = ex ∙ ap digit_char one in
    let second : y ≡ digit_char (b % 16) = ey ∙ ap digit_char two in
    (ap (λ z. z ∷ y ∷ []) first ∙ ap (λ z. digit_char (b / 16) ∷ z ∷ []) second, omega arith)

byte_sound : (text : List ℕ) (b : ℕ) → hex_byte_at text ≡ Some b → (text ≡ byte_hex b) × (b < 256)
unfolding hex_byte_at
byte_sound [] b e = cc
byte_sound (x ∷ []) b e = cc
byte_sound (x ∷ y ∷ []) b e =
    let high = passed (hex_digit_at x) _ b e in
    let low = passed (hex_digit_at y) _ b high.gives in
    let value : high.value * 16 + low.value ≡ b = some_same low.gives in
    of_digits x y high.value low.value b (digit_spelled x _ high.was) (digit_small x _ high.was) (digit_spelled y _ low.was) (digit_small y _ low.was) value
byte_sound (x ∷ y ∷ z ∷ rest) b e = cc

pub cons_bytes : (b : ℕ) (bs : List ℕ) → b < 256 → AreBytes bs → AreBytes (b ∷ bs)
cons_bytes b bs small rest zero = small
cons_bytes b bs small rest (suc i) = rest i

pub no_bytes : AreBytes []
no_bytes i = omega arith

pairs_sound : (text bs : List ℕ) → pairs_at text ≡ Some bs → (text ≡ flat_map byte_hex bs) × AreBytes bs
pairs_sound [] bs e = let none : [] ≡ bs = some_same e in (ap (flat_map byte_hex) none, subst AreBytes none no_bytes)
pairs_sound (x ∷ []) bs e = cc
pairs_sound (x ∷ y ∷ rest) bs e =
    let first = passed (hex_byte_at (x ∷ y ∷ [])) _ bs e in
    let others = passed (pairs_at rest) _ bs first.gives in
    let whole : first.value ∷ others.value ≡ bs = some_same others.gives in
    let s = byte_sound (x ∷ y ∷ []) first.value first.was in
    let t = pairs_sound rest others.value others.was in (
      ap (λ p. p ++ rest) s.0 ∙ ap (λ r. byte_hex first.value ++ r) t.0 ∙ ap (flat_map byte_hex) whole,
      subst AreBytes whole (cons_bytes first.value others.value s.1 t.1),
    )

-- ---- the digits that `hex` writes

-- the first n digits of its table are those that we name
abbrev are_ours : ℕ → Bool
are_ours zero = true
are_ours (suc n) = eqb (get_or lower_digits n 0) (digit_char n) && are_ours n

ours_at : (n d : ℕ) → are_ours n ≡ true → d < n → get_or lower_digits d 0 ≡ digit_char d
ours_at zero d ours below = absurd (omega arith)
ours_at (suc n) d ours below =
    let parts = and_parts (eqb (get_or lower_digits n 0) (digit_char n)) (are_ours n) ours in
    elim (cases_lt d n) [
      | inl before ↦ ours_at n d parts.1 before
      | inr last ↦ let same : n ≡ d = omega arith in subst (λ k. get_or lower_digits k 0 ≡ digit_char k) same (eqb-true _ _ parts.0)
    ]

lower_digit : (d : ℕ) → d < 16 → get_or lower_digits d 0 ≡ digit_char d
lower_digit d small = ours_at 16 d refl small

pub encoded : (bs : List ℕ) → AreBytes bs → encode_lower bs ≡ flat_map byte_hex bs
unfolding encode_with
encoded [] fits = refl
encoded (b ∷ bs) fits =
    let small : b < 256 = fits 0 in
    let high = lower_digit (b / 16) (omega arith) in
    let low = lower_digit (b % 16) (omega arith) in
    ap (λ c. c ∷ get_or lower_digits (b % 16) 0 ∷ encode_with lower_digits bs) high
    ∙ ap (λ c. digit_char (b / 16) ∷ c ∷ encode_with lower_digits bs) low
    ∙ ap (λ rest. digit_char (b / 16) ∷ digit_char (b % 16) ∷ rest) (encoded bs (λ i. fits (suc i)))

digit_lacks : (n : ℕ) → n < 16 → not (is_ascii_uppercase (digit_char n)) ≡ true
digit_lacks n small = grind (arith, nat_tests)

pairs_lack : (bs : List ℕ) → AreBytes bs → lacks_capitals (flat_map byte_hex bs) ≡ true
pairs_lack [] fits = refl
pairs_lack (b ∷ bs) fits =
    let small : b < 256 = fits 0 in
    and_from _ _ (digit_lacks (b / 16) (omega arith)) (and_from _ _ (digit_lacks (b % 16) (omega arith)) (pairs_lack bs (λ i. fits (suc i))))

-- ---- what `hex` reads where no letter is a capital

same_digit : (c : ℕ) → is_ascii_uppercase c ≡ false → hex_digit_value c ≡ hex_digit_at c
unfolding hex_digit_at
same_digit c small = grind (arith, nat_tests)

-- the byte of two values, where both are there
abbrev joined : Option ℕ → Option ℕ → Option ℕ
joined high low = option_and_then (λ h. option_and_then (λ l. Some (h * 16 + l)) low) high

both : (x y i : ℕ) (high low : Option ℕ)
    → result_ok (digit_or_error x i high >>= (λ h. digit_or_error y (i + 1) low >>= (λ l. Ok (h * 16 + l)))) ≡ joined high low
both x y i None low = refl
both x y i (Some h) None = refl
both x y i (Some h) (Some l) = refl

pair_same : (x y i : ℕ) → is_ascii_uppercase x ≡ false → is_ascii_uppercase y ≡ false → result_ok (pair_value x y i) ≡ hex_byte_at (x ∷ y ∷ [])
unfolding hex_byte_at
pair_same x y i first second =
    both x y i (hex_digit_value x) (hex_digit_value y)
    ∙ ap (λ high. joined high (hex_digit_value y)) (same_digit x first)
    ∙ ap (λ low. joined (hex_digit_at x) low) (same_digit y second)

-- a byte in front of bytes, where both are there
abbrev in_front : Option ℕ → Option (List ℕ) → Option (List ℕ)
in_front byte bytes = option_and_then (λ b. option_and_then (λ bs. Some (b ∷ bs)) bytes) byte

one_more : (byte : Result ℕ FromHexError) (bytes : Result (List ℕ) FromHexError)
    → result_ok (byte >>= (λ b. bytes >>= (λ bs. Ok (b ∷ bs)))) ≡ in_front (result_ok byte) (result_ok bytes)
one_more (Err e) bytes = refl
one_more (Ok b) (Err e) = refl
one_more (Ok b) (Ok bs) = refl

pairs_same : (i : ℕ) (text : List ℕ) → lacks_capitals text ≡ true → result_ok (decode_pairs i text) ≡ pairs_at text
unfolding decode_pairs
pairs_same i [] small = refl
pairs_same i (x ∷ []) small = refl
pairs_same i (x ∷ y ∷ rest) small =
    let first = and_parts (not (is_ascii_uppercase x)) _ small in
    let second = and_parts (not (is_ascii_uppercase y)) _ first.1 in
    one_more (pair_value x y i) (decode_pairs (i + 2) rest)
    ∙ ap (λ byte. in_front byte (result_ok (decode_pairs (i + 2) rest))) (pair_same x y i (not-true _ first.0) (not-true _ second.0))
    ∙ ap (in_front (hex_byte_at (x ∷ y ∷ []))) (pairs_same (i + 2) rest second.1)

odd_none : (text : List ℕ) → length text % 2 ≡ 1 → (r : Result (List ℕ) FromHexError) → decode_pairs 0 text ≡ r → result_ok r ≡ None
odd_none text odd (Ok bytes) e = absurd (let len = (decode_pairs-ok 0 text bytes e).1 in omega (arith, len))
odd_none text odd (Err fault) e = refl

pub pairs_decoded : (text : List ℕ) → lacks_capitals text ≡ true → pairs_at text ≡ result_ok (decode_of text)
pairs_decoded text small =
    elim (cases_eq (length text % 2) 1) [
      | inl odd ↦ sym (pairs_same 0 text small) ∙ odd_none text odd (decode_pairs 0 text) refl ∙ ap result_ok (sym (decode_of-odd text odd))
      | inr other ↦ sym (ap result_ok (decode_of-even text (omega arith)) ∙ pairs_same 0 text small)
    ]

pub capital_pairs : (text : List ℕ) → lacks_capitals text ≡ false → pairs_at text ≡ None
capital_pairs text capital =
    elim (pairs_at text) as (λ o. pairs_at text ≡ o → o ≡ None) [
      | None ↦ λ e. refl
      | Some bs ↦ λ e.
          let s = pairs_sound text bs e in
          let lacks : lacks_capitals text ≡ true = ap lacks_capitals s.0 ∙ pairs_lack bs s.1 in cc
    ] refl

pairs_whole : (bs : List ℕ) → AreBytes bs → pairs_at (flat_map byte_hex bs) ≡ Some bs
pairs_whole bs fits =
    pairs_decoded (flat_map byte_hex bs) (pairs_lack bs fits)
    ∙ ap result_ok (ap decode_of (sym (encoded bs fits)) ∙ decode_of-encode_lower bs fits)

-- the byte of what was read into room for one
abbrev byte_in : Result (List ℕ) FromHexError → Option ℕ
byte_in r = option_map (λ bytes. get_or bytes 0 0) (result_ok r)

longer_none : (x y z : ℕ) (rest : List ℕ) (r : Result (List ℕ) FromHexError) → decode_sized (x ∷ y ∷ z ∷ rest) 1 ≡ r → None ≡ byte_in r
longer_none x y z rest (Ok bytes) e = absurd (let len = decode_sized-ok (x ∷ y ∷ z ∷ rest) 1 bytes e in omega (arith, len))
longer_none x y z rest (Err fault) e = refl

byte_alone : (byte : Result ℕ FromHexError) → result_ok byte ≡ byte_in (byte >>= (λ b. Ok (b ∷ [])))
byte_alone (Ok b) = refl
byte_alone (Err e) = refl

pub byte_decoded : (text : List ℕ) → lacks_capitals text ≡ true → hex_byte_at text ≡ byte_in (decode_sized text 1)
unfolding decode_pairs hex_byte_at
byte_decoded [] small = refl
byte_decoded (x ∷ []) small = refl
byte_decoded (x ∷ y ∷ []) small =
    let first = and_parts (not (is_ascii_uppercase x)) _ small in
    let second = and_parts (not (is_ascii_uppercase y)) _ first.1 in
    sym (pair_same x y 0 (not-true _ first.0) (not-true _ second.0)) ∙ byte_alone (pair_value x y 0)
byte_decoded (x ∷ y ∷ z ∷ rest) small = longer_none x y z rest (decode_sized (x ∷ y ∷ z ∷ rest) 1) refl

byte_lacks : (b : ℕ) → b < 256 → lacks_capitals (byte_hex b) ≡ true
byte_lacks b small = pairs_lack (b ∷ []) (cons_bytes b [] small no_bytes)

pub capital_byte : (text : List ℕ) → lacks_capitals text ≡ false → hex_byte_at text ≡ None
capital_byte text capital =
    elim (hex_byte_at text) as (λ o. hex_byte_at text ≡ o → o ≡ None) [
      | None ↦ λ e. refl
      | Some b ↦ λ e.
          let s = byte_sound text b e in
          let lacks : lacks_capitals text ≡ true = ap lacks_capitals s.0 ∙ byte_lacks b s.1 in cc
    ] refl

byte_whole : (b : ℕ) → b < 256 → hex_byte_at (byte_hex b) ≡ Some b
byte_whole b small =
    let fits = cons_bytes b [] small no_bytes in
    byte_decoded (byte_hex b) (byte_lacks b small)
    ∙ ap byte_in (ap (λ text. decode_sized text 1) (sym (encoded (b ∷ []) fits)) ∙ decode_sized-encode_lower (b ∷ []) 1 refl fits)

pub hex_byte_reads : Reads byte_hex (λ b. b < 256) hex_byte_at
hex_byte_reads = record { sound = byte_sound; whole = byte_whole }

-- ---- bytes, with `-` for none

nonzero : (n : ℕ) → eqb (suc n) 0 ≡ false
nonzero n = ne_eqb (suc n) 0 (λ e. omega arith)

pub hex_text_none : hex_text [] ≡ codes "-"
unfolding hex_text
hex_text_none = refl

pub hex_text_some : (b : ℕ) (bs : List ℕ) → hex_text (b ∷ bs) ≡ flat_map byte_hex (b ∷ bs)
unfolding hex_text
hex_text_some b bs = rw (nonzero (length bs)) refl

hex_whole : (bs : List ℕ) → AreBytes bs → hex_at (hex_text bs) ≡ Some bs
unfolding hex_at
hex_whole [] fits = rw hex_text_none refl
hex_whole (b ∷ bs) fits = rw (hex_text_some b bs, nonzero (suc (length (flat_map byte_hex bs))), and_right) (pairs_whole (b ∷ bs) fits)

some_pairs : (text bs : List ℕ) → 0 < length text → text ≡ flat_map byte_hex bs → text ≡ hex_text bs
some_pairs text [] some e = absurd (let none : length text ≡ 0 = ap length e in omega arith)
some_pairs text (b ∷ bs) some e = e ∙ sym (hex_text_some b bs)

hex_sound : (text bs : List ℕ) → hex_at text ≡ Some bs → (text ≡ hex_text bs) × AreBytes bs
unfolding hex_at
hex_sound [] bs e = cc
hex_sound (c ∷ cs) bs e =
    elim (bytes_eq (c ∷ cs) (codes "-")) as
    (λ b. bytes_eq (c ∷ cs) (codes "-") ≡ b → cond b (Some []) (pairs_at (c ∷ cs)) ≡ Some bs → (c ∷ cs ≡ hex_text bs) × AreBytes bs) [
      | true ↦ λ t q.
          let none : [] ≡ bs = some_same q in
          ((bytes_eq-Decides _ _).0 t ∙ sym hex_text_none ∙ ap hex_text none, subst AreBytes none no_bytes)
      | false ↦ λ t q. let s = pairs_sound (c ∷ cs) bs q in (some_pairs (c ∷ cs) bs (omega arith) s.0, s.1)
    ] refl (rw (nonzero (length cs)) at e)

pub hex_reads : Reads hex_text AreBytes hex_at
hex_reads = record { sound = hex_sound; whole = hex_whole }
