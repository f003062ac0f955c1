-- Texts of one kind of byte, joined; and decimal numbers, however large.
use Rattle.std.proofs.Common.{◌≡◌, ◌≢◌, ℕ, zero, suc, ◌/◌, ◌%◌, ◌<◌, Bool, true, false, cond, List, [], ◌∷◌, ◌++◌, refl, arith, eqb}
use Rattle.std.specs.Fmt.{decimal, digits, digits_onto, digit_glyph}
use Rattle.std.specs.Char.{is_ascii_digit}
use Rattle.std.proofs.lemmas.Bool.{and_from}
use Rattle.std.proofs.lemmas.Bool.Decides.{nat_tests}
use Rattle.net_types.proofs.CaseLaws.{gated}
use Rattle.net_types.proofs.MarkLaws.{only-append, only_weaker}
use Rattle.net_types.specs.Marks.{Only}
use Rattle.safe_texts.specs.Grammars.{IsMadeOf}

-- a choice, with what the test says in each case
pub chosen_by : {A : Type 0} (P : A → Type 0) (b : Bool) (x y : A) → (b ≡ true → P x) → (b ≡ false → P y) → P (cond b x y)
chosen_by P true x y one other = one refl
chosen_by P false x y one other = other refl

pub filled : (byte : ℕ) (text : List ℕ) → byte ∷ text ≢ []
filled byte text e = absurd cc

pub filled_join : (xs ys : List ℕ) → xs ≢ [] → xs ++ ys ≢ []
filled_join [] ys some = λ e. some refl
filled_join (x ∷ xs) ys some = filled x (xs ++ ys)

pub made_join : (test : ℕ → Bool) (xs ys : List ℕ) → IsMadeOf test xs → Only test ys → IsMadeOf test (xs ++ ys)
made_join test xs ys made more = record { some = filled_join xs ys made.some; only = only-append test xs ys made.only more }

pub made_weaker : (test other : ℕ → Bool) (text : List ℕ) → ((b : ℕ) → test b ≡ true → other b ≡ true) → IsMadeOf test text → IsMadeOf other text
made_weaker test other text more made = record { some = made.some; only = only_weaker test other text more made.only }

-- ---- digits

glyph_is_digit : (d : ℕ) → d < 10 → is_ascii_digit (digit_glyph false d) ≡ true
glyph_is_digit d small = grind (arith, nat_tests)

onto_only : (k n : ℕ) (text : List ℕ) → Only is_ascii_digit text → Only is_ascii_digit (digits_onto k 10 false n text)
onto_only zero n text only = only
onto_only (suc k) n text only =
    let more : Only is_ascii_digit (digit_glyph false (n % 10) ∷ text) = and_from _ _ (glyph_is_digit (n % 10) (omega arith)) only in
    gated (Only is_ascii_digit) (eqb (n / 10) 0) (digit_glyph false (n % 10) ∷ text) (digits_onto k 10 false (n / 10) (digit_glyph false (n % 10) ∷ text)) more
    (onto_only k (n / 10) (digit_glyph false (n % 10) ∷ text) more)

onto_some : (k n d : ℕ) (text : List ℕ) → digits_onto k 10 false n (d ∷ text) ≢ []
onto_some zero n d text = filled d text
onto_some (suc k) n d text =
    gated (λ (t : List ℕ). t ≢ []) (eqb (n / 10) 0) (digit_glyph false (n % 10) ∷ d ∷ text)
    (digits_onto k 10 false (n / 10) (digit_glyph false (n % 10) ∷ d ∷ text)) (filled (digit_glyph false (n % 10)) (d ∷ text))
    (onto_some k (n / 10) (digit_glyph false (n % 10)) (d ∷ text))

onto_first : (k n : ℕ) → digits_onto (suc k) 10 false n [] ≢ []
onto_first k n =
    gated (λ (t : List ℕ). t ≢ []) (eqb (n / 10) 0) (digit_glyph false (n % 10) ∷ []) (digits_onto k 10 false (n / 10) (digit_glyph false (n % 10) ∷ []))
    (filled (digit_glyph false (n % 10)) []) (onto_some k (n / 10) (digit_glyph false (n % 10)) [])

pub decimal_made : (n : ℕ) → IsMadeOf is_ascii_digit (decimal n)
unfolding digits
decimal_made n = record { some = onto_first 63 n; only = onto_only 64 n [] refl }
