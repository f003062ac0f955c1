-- The one's complement sum of lists laid end to end.
use Rattle.std.proofs.Common.{◌≡◌, ℕ, zero, suc, ◌+◌, ◌-◌, ◌*◌, ◌%◌, ◌/◌, ◌<◌, ◌≤◌, List, [], ◌∷◌, ◌++◌, length, get_or, take, refl, sym, ap, ◌∙◌, arith, rules, Bool, true, false, Fits, w8}
use Rattle.std.proofs.Common.{drop, inl, inr}
use Rattle.std.specs.Prelude.{◌==◌}
use Rattle.std.proofs.lemmas.Bool.{cases_lt}
use Rattle.std.proofs.lemmas.List.{take-append-drop, length-append, length-take, get_or-drop, get_or-take, get_or_past}
use Rattle.byteorder.specs.Endian.{big_number}
use Rattle.net_types.specs.Sum.{checksum, ones_add, ones_sum, ones_fold, plain_sum, IsSumOf}
use Rattle.net_types.specs.Marks.{AreBytes}
use Rattle.net_types.specs.declared.sum.Sum.{Sum}

pub rest_bytes : (x : ℕ) (xs : List ℕ) → AreBytes (x ∷ xs) → AreBytes xs
rest_bytes x xs h i = h (suc i)

-- ---- numbers

pub add_small : (a b : ℕ) → a ≤ 65535 → b ≤ 65535 → ones_add a b ≤ 65535
add_small a b ha hb = grind (arith)

pub add_zero : (a : ℕ) → a ≤ 65535 → ones_add a 0 ≡ a
add_zero a h = grind (arith)

pub zero_add_ones : (a : ℕ) → a ≤ 65535 → ones_add 0 a ≡ a
zero_add_ones a h = grind (arith)

pub add_assoc_ones : (a b c : ℕ) → a ≤ 65535 → b ≤ 65535 → c ≤ 65535 → ones_add a (ones_add b c) ≡ ones_add (ones_add a b) c
add_assoc_ones a b c ha hb hc = grind (arith)

pub fold_add : (w s : ℕ) → w ≤ 65535 → ones_add w (ones_fold s) ≡ ones_fold (w + s)
fold_add w s h = grind (arith)

pub fold_small : (s : ℕ) → ones_fold s ≤ 65535
fold_small s = grind (arith)

pub fold_word : (w : ℕ) → w ≤ 65535 → ones_fold w ≡ w
fold_word w h = grind (arith)

pub folds : (n : ℕ) → n < 4294967296 → ((n % 65536 + n / 65536) % 65536) + (n % 65536 + n / 65536) / 65536 ≡ ones_fold n
folds n h = grind (arith)

-- ---- lists

pub sum_small : (xs : List ℕ) → AreBytes xs → ones_sum xs ≤ 65535
sum_small [] h = omega arith
sum_small (a ∷ []) h = omega (arith, h 0)
sum_small (a ∷ b ∷ rest) h = add_small (256 * a + b) (ones_sum rest) (omega (arith, h 0, h 1)) (sum_small rest (λ i. h (suc (suc i))))

pub sum_plain : (xs : List ℕ) → AreBytes xs → ones_sum xs ≡ ones_fold (plain_sum xs)
sum_plain [] h = refl
sum_plain (a ∷ []) h = sym (fold_word (256 * a) (omega (arith, h 0)))
sum_plain (a ∷ b ∷ rest) h =
    ap (λ s. ones_add (256 * a + b) s) (sum_plain rest (λ i. h (suc (suc i)))) ∙ fold_add (256 * a + b) (plain_sum rest) (omega (arith, h 0, h 1))

-- a whole number of words before the others
pub sum_words : (xs ys : List ℕ) → length xs % 2 ≡ 0 → AreBytes xs → AreBytes ys → ones_sum (xs ++ ys) ≡ ones_add (ones_sum xs) (ones_sum ys)
sum_words [] ys even hx hy = sym (zero_add_ones (ones_sum ys) (sum_small ys hy))
sum_words (a ∷ []) ys even hx hy = absurd (omega arith)
sum_words (a ∷ b ∷ rest) ys even hx hy =
    let fewer : length rest % 2 ≡ 0 = omega arith in
    let others : AreBytes rest = λ i. hx (suc (suc i)) in
    ap (λ s. ones_add (256 * a + b) s) (sum_words rest ys fewer others hy)
    ∙ add_assoc_ones (256 * a + b) (ones_sum rest) (ones_sum ys) (omega (arith, hx 0, hx 1)) (sum_small rest others) (sum_small ys hy)

-- half a word before its other half and the others
pub sum_halves : (xs : List ℕ) (low : ℕ) (ys : List ℕ) → length xs % 2 ≡ 1 → AreBytes xs → low < 256 → AreBytes ys
    → ones_sum (xs ++ low ∷ ys) ≡ ones_add (ones_add (ones_sum xs) low) (ones_sum ys)
sum_halves [] low ys odd hx small hy = absurd (omega arith)
sum_halves (a ∷ []) low ys odd hx small hy =
    let word : ones_add (256 * a) low ≡ 256 * a + low = grind (arith, hx 0) in
    rw word refl
sum_halves (a ∷ b ∷ rest) low ys odd hx small hy =
    let fewer : length rest % 2 ≡ 1 = omega arith in
    let others : AreBytes rest = λ i. hx (suc (suc i)) in
    let w : 256 * a + b ≤ 65535 = omega (arith, hx 0, hx 1) in
    let inner = add_small (ones_sum rest) low (sum_small rest others) (omega arith) in
    ap (λ s. ones_add (256 * a + b) s) (sum_halves rest low ys fewer others small hy)
    ∙ add_assoc_ones (256 * a + b) (ones_add (ones_sum rest) low) (ones_sum ys) w inner (sum_small ys hy)
    ∙ ap (λ s. ones_add s (ones_sum ys)) (add_assoc_ones (256 * a + b) (ones_sum rest) low w (sum_small rest others) (omega arith))

-- one word more
pub word_more : (xs : List ℕ) (k : ℕ) → k % 2 ≡ 0 → suc k < length xs
    → plain_sum (take (suc (suc k)) xs) ≡ plain_sum (take k xs) + (256 * get_or xs k 0 + get_or xs (suc k) 0)
word_more [] k even lt = absurd (omega arith)
word_more (a ∷ []) k even lt = absurd (omega arith)
word_more (a ∷ b ∷ rest) zero even lt = omega arith
word_more (a ∷ b ∷ rest) (suc zero) even lt = absurd (omega arith)
word_more (a ∷ b ∷ rest) (suc (suc k)) even lt = omega (arith, word_more rest k (omega arith) (omega arith))

-- half a word more
pub half_more : (xs : List ℕ) (k : ℕ) → k % 2 ≡ 0 → suc k ≡ length xs → plain_sum xs ≡ plain_sum (take k xs) + 256 * get_or xs k 0
half_more [] k even e = absurd (omega arith)
half_more (a ∷ []) zero even e = omega arith
half_more (a ∷ []) (suc k) even e = absurd (omega arith)
half_more (a ∷ b ∷ rest) zero even e = absurd (omega arith)
half_more (a ∷ b ∷ rest) (suc zero) even e = absurd (omega arith)
half_more (a ∷ b ∷ rest) (suc (suc k)) even e = omega (arith, half_more rest k (omega arith) (omega arith))

-- the next word is the number at the front of what is left
pub word_after : (xs : List ℕ) (i : ℕ) → 2 * i + 1 < length xs
    → plain_sum (take (2 * (i + 1)) xs) ≡ plain_sum (take (2 * i) xs) + big_number 2 (drop (2 * i) xs)
word_after xs i lt =
    let next : 2 * (i + 1) ≡ suc (suc (2 * i)) = omega arith in
    let high = get_or-drop (2 * i) xs 0 0 in
    let low = get_or-drop (2 * i) xs 1 0 in
    let first : get_or xs (2 * i + 0) 0 ≡ get_or xs (2 * i) 0 = ap (λ k. get_or xs k 0) (omega arith) in
    let second : get_or xs (2 * i + 1) 0 ≡ get_or xs (suc (2 * i)) 0 = ap (λ k. get_or xs k 0) (omega arith) in
    let more = word_more xs (2 * i) (omega arith) (omega arith) in
    rw next (omega (arith, high, low, first, second, more))

pub last_half : (xs : List ℕ) (i : ℕ) → length xs % 2 ≡ 1 → length xs / 2 ≤ i → i ≤ length xs / 2
    → plain_sum xs ≡ plain_sum (take (2 * i) xs) + 256 * get_or xs (length xs - 1) 0
last_half xs i odd least most =
    let last : length xs - 1 ≡ 2 * i = omega arith in
    rw last (half_more xs (2 * i) (omega arith) (omega arith))

-- ---- blocks

pub take_bytes : (n : ℕ) (xs : List ℕ) → AreBytes xs → AreBytes (take n xs)
take_bytes n xs h i =
    elim (cases_lt i n) [
      | inl lt ↦ rw (get_or-take n xs i 0 lt) (h i)
      | inr le ↦ rw (get_or_past (take n xs) i 0 (omega (arith, length-take n xs))) (omega arith)
    ]

pub drop_bytes : (n : ℕ) (xs : List ℕ) → AreBytes xs → AreBytes (drop n xs)
drop_bytes n xs h i = rw get_or-drop (h (n + i))

pub block_more : (rest : List ℕ) (total all : ℕ) → AreBytes rest → total ≤ 65535 → 65536 < length rest → all ≡ ones_add total (ones_sum rest)
    → all ≡ ones_add (ones_add total (ones_sum (take 65536 rest))) (ones_sum (drop 65536 rest))
block_more rest total all h small long so_far =
    let block = take_bytes 65536 rest h in
    let after = drop_bytes 65536 rest h in
    let even : length (take 65536 rest) % 2 ≡ 0 = omega (arith, length-take 65536 rest) in
    let cut : ones_sum rest ≡ ones_add (ones_sum (take 65536 rest)) (ones_sum (drop 65536 rest)) =
    ap ones_sum (sym (take-append-drop 65536 rest)) ∙ sum_words (take 65536 rest) (drop 65536 rest) even block after in
    so_far ∙ ap (λ s. ones_add total s) cut
    ∙ add_assoc_ones total (ones_sum (take 65536 rest)) (ones_sum (drop 65536 rest)) small (sum_small _ block) (sum_small _ after)

pub fit_bytes : (xs : List ℕ) → ((i : ℕ) → Fits w8 (get_or xs i 0)) → AreBytes xs
fit_bytes xs h i = search (rules, h i)

pub more_bytes : (x : ℕ) (xs : List ℕ) → x < 256 → AreBytes xs → AreBytes (x ∷ xs)
more_bytes x xs small h zero = small
more_bytes x xs small h (suc i) = h i

-- ---- a checksum in its place

core : (x y sum : ℕ) → x ≤ 65535 → y ≤ 65535 → sum ≡ 65535 - ones_add x (ones_add 0 y) → ones_add x (ones_add sum y) ≡ 65535
core x y sum hx hy e = grind (arith)

core_ones : (x y : ℕ) → x ≤ 65535 → y ≤ 65535 → 65535 - ones_add x (ones_add 0 y) ≡ 0 → ones_add x (ones_add 65535 y) ≡ 65535
core_ones x y hx hy e = grind (arith)

in_place : (xs ys : List ℕ) (high low : ℕ) → length xs % 2 ≡ 0 → AreBytes xs → AreBytes ys → high < 256 → low < 256
    → ones_sum (xs ++ high ∷ low ∷ ys) ≡ ones_add (ones_sum xs) (ones_add (256 * high + low) (ones_sum ys))
in_place xs ys high low even hx hy high_small low_small =
    sum_words xs (high ∷ low ∷ ys) even hx (more_bytes high (low ∷ ys) high_small (more_bytes low ys low_small hy))

-- bytes that hold their checksum add up to all ones
pub checks : (xs ys : List ℕ) (sum : ℕ) → length xs % 2 ≡ 0 → AreBytes xs → AreBytes ys → sum ≡ checksum (xs ++ 0 ∷ 0 ∷ ys)
    → ones_sum (xs ++ sum / 256 % 256 ∷ sum % 256 ∷ ys) ≡ 65535
checks xs ys sum even hx hy e =
    let blank = in_place xs ys 0 0 even hx hy (omega arith) (omega arith) in
    let sum_is : sum ≡ 65535 - ones_add (ones_sum xs) (ones_add 0 (ones_sum ys)) = e ∙ ap (λ s. 65535 - s) blank in
    let split : 256 * (sum / 256 % 256) + sum % 256 ≡ sum = omega (arith, sum_is) in
    in_place xs ys (sum / 256 % 256) (sum % 256) even hx hy (omega arith) (omega arith)
    ∙ ap (λ w. ones_add (ones_sum xs) (ones_add w (ones_sum ys))) split
    ∙ core (ones_sum xs) (ones_sum ys) sum (sum_small xs hx) (sum_small ys hy) sum_is

-- so do those that hold all ones in place of 0
pub checks_ones : (xs ys : List ℕ) → length xs % 2 ≡ 0 → AreBytes xs → AreBytes ys → checksum (xs ++ 0 ∷ 0 ∷ ys) ≡ 0
    → ones_sum (xs ++ 255 ∷ 255 ∷ ys) ≡ 65535
checks_ones xs ys even hx hy e =
    let blank = in_place xs ys 0 0 even hx hy (omega arith) (omega arith) in
    in_place xs ys 255 255 even hx hy (omega arith) (omega arith)
    ∙ core_ones (ones_sum xs) (ones_sum ys) (sum_small xs hx) (sum_small ys hy) (ap (λ s. 65535 - s) (sym blank) ∙ e)

-- ---- a sum of what was added so far

pub append_bytes : (xs ys : List ℕ) → AreBytes xs → AreBytes ys → AreBytes (xs ++ ys)
append_bytes [] ys hx hy i = hy i
append_bytes (x ∷ xs) ys hx hy zero = hx 0
append_bytes (x ∷ xs) ys hx hy (suc i) = append_bytes xs ys (λ j. hx (suc j)) hy i

is_even : (n : ℕ) (b : Bool) → b ≡ (n % 2 == 1) → b ≡ false → n % 2 ≡ 0
is_even n b e f = grind (arith)

is_half : (n : ℕ) (b : Bool) → b ≡ (n % 2 == 1) → b ≡ true → n % 2 ≡ 1
is_half n b e f = grind (arith)

same_rest : (m k : ℕ) → k % 2 ≡ m % 2 → (k % 2 == 1) ≡ (m % 2 == 1)
same_rest m k e = ap (λ r. r == 1) e

pub even_more : (old new : Sum) (bytes piece : List ℕ) → IsSumOf old bytes → AreBytes piece → old.odd ≡ false
    → new.total ≡ ones_add old.total (ones_sum piece) → new.odd ≡ (length piece % 2 == 1) → IsSumOf new (bytes ++ piece)
even_more old new bytes piece before range even total odd =
    let words = is_even (length bytes) old.odd before.odd even in
    record {
      range = append_bytes bytes piece before.range range;
      total = total ∙ ap (λ t. ones_add t (ones_sum piece)) before.total ∙ sym (sum_words bytes piece words before.range range);
      odd = odd ∙ same_rest (length (bytes ++ piece)) (length piece) (omega (arith, length-append bytes piece));
    }

pub odd_more : (old new : Sum) (bytes : List ℕ) (low : ℕ) (piece : List ℕ) → IsSumOf old bytes → low < 256 → AreBytes piece → old.odd ≡ true
    → new.total ≡ ones_add (ones_add old.total low) (ones_sum piece) → new.odd ≡ (length piece % 2 == 1) → IsSumOf new (bytes ++ low ∷ piece)
odd_more old new bytes low piece before small range half total odd =
    let words = is_half (length bytes) old.odd before.odd half in
    record {
      range = append_bytes bytes (low ∷ piece) before.range (more_bytes low piece small range);
      total = total ∙ ap (λ t. ones_add (ones_add t low) (ones_sum piece)) before.total ∙ sym (sum_halves bytes low piece words before.range small range);
      odd = odd ∙ same_rest (length (bytes ++ low ∷ piece)) (length piece) (omega (arith, length-append bytes (low ∷ piece)));
    }
