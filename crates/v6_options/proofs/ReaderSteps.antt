-- Addresses and labels of a value, one after another.
use Rattle.std.proofs.Common.{◌≡◌, ℕ, zero, suc, ◌+◌, ◌-◌, ◌/◌, ◌<◌, ◌≤◌, true, false, List, [], ◌∷◌, length, drop, get_or, refl, ap, ◌∙◌, arith}
use Rattle.std.proofs.lemmas.Bool.{le-leb, lt-leb}
use Rattle.std.proofs.lemmas.List.{length-drop, drop_all}
use Rattle.v6_options.specs.Ias.{ip6_in}
use Rattle.v6_options.specs.Readers.{addresses_in, pointer_after}

one_less : (n : ℕ) → 16 ≤ n → n / 16 ≡ suc ((n - 16) / 16)
one_less n h = omega arith

pub more_addresses : (value : List ℕ) → 16 ≤ length value
    → addresses_in (length value / 16) value ≡ ip6_in 0 value ∷ addresses_in (length (drop 16 value) / 16) (drop 16 value)
more_addresses value h =
    let left : length (drop 16 value) ≡ length value - 16 = length-drop 16 value in
    rw (one_less (length value) h, left) refl

none_left : (n : ℕ) → n < 16 → n / 16 ≡ 0
none_left n h = omega arith

pub no_addresses : (value : List ℕ) → length value < 16 → addresses_in (length value / 16) value ≡ []
no_addresses value h = rw (none_left (length value) h) refl

pointer_skip : (k : ℕ) (value : List ℕ) → pointer_after k value ≡ pointer_after 0 (drop k value)
pointer_skip zero value = refl
pointer_skip (suc k) [] = refl
pointer_skip (suc k) (b ∷ value) = pointer_skip k value

pub no_labels : (value : List ℕ) → length value ≡ 0 → pointer_after 0 value ≡ false
no_labels [] h = refl
no_labels (b ∷ value) h = absurd (omega arith)

pub pointer_here : (value : List ℕ) → 0 < length value → 192 ≤ get_or value 0 0 → pointer_after 0 value ≡ true
pointer_here [] some high = absurd (omega arith)
pointer_here (len ∷ rest) some high = rw (le-leb 192 len high) refl

pub label_cut : (value : List ℕ) → 0 < length value → get_or value 0 0 < 192 → length value - 1 < get_or value 0 0 → pointer_after 0 value ≡ false
label_cut [] some low cut = absurd (omega arith)
label_cut (len ∷ rest) some low cut = rw (lt-leb 192 len low, pointer_skip len rest, drop_all len rest (omega arith)) refl

pub label_passed : (value : List ℕ) → 0 < length value → get_or value 0 0 < 192 → pointer_after 0 value ≡ pointer_after 0 (drop (1 + get_or value 0 0) value)
label_passed [] some low = absurd (omega arith)
label_passed (len ∷ rest) some low =
    let on : suc len ≡ 1 + len = omega arith in
    rw (lt-leb 192 len low) (pointer_skip len rest ∙ ap (λ (k : ℕ). pointer_after 0 (drop k (len ∷ rest))) on)
