-- The names of interfaces are names, and unlike.
use Rattle.std.proofs.Common.{◌≡◌, ℕ, ◌<◌, ◌≤◌, true, List, ◌++◌, length, drop, Some, refl, sym, ap, ◌∙◌, arith, ltb}
use Rattle.std.specs.Prelude.{codes, decimal}
use Rattle.std.specs.Char.{is_ascii_digit}
use Rattle.std.specs.List.{list_all}
use Rattle.std.proofs.lemmas.Bool.Decides.{nat_tests}
use Rattle.std.proofs.lemmas.Fmt.{length-decimal-le, decimal_injective}
use Rattle.net_types.specs.NameText.{is_name, is_name_byte, name_text, name_at, FitsName}
use Rattle.net_types.proofs.MarkLaws.{only_weaker, decimal_only}
use Rattle.net_types.proofs.NameLaws.{name_reads}
use Rattle.made_script.specs.MadeHosts.{own_name}

digit_in_name : (b : ℕ) → is_ascii_digit b ≡ true → is_name_byte b ≡ true
digit_in_name b h = grind (arith, nat_tests)

is_short : (n : ℕ) → n < 16 → ltb n 16 ≡ true
is_short n h = grind arith

own_short : (index : ℕ) → index < 256 → length (codes "eth" ++ decimal index) < 16
own_short index small =
    let digits : length (decimal index) ≤ 3 = length-decimal-le 3 index (omega arith) (omega arith) (omega arith) in
    omega (arith, digits)

own_bytes : (index : ℕ) → index < 256 → list_all is_name_byte (codes "eth" ++ decimal index) ≡ true
own_bytes index small = only_weaker is_ascii_digit is_name_byte (decimal index) digit_in_name (decimal_only index (omega arith))

own_is_name : (index : ℕ) → index < 256 → is_name (codes "eth" ++ decimal index) ≡ true
unfolding is_name
own_is_name index small = rw (is_short (length (codes "eth" ++ decimal index)) (own_short index small), own_bytes index small) refl

pub own_read : (index : ℕ) → index < 256 → name_at (codes "eth" ++ decimal index) ≡ Some (own_name index)
unfolding name_at
own_read index small = rw (own_is_name index small) refl

pub own_fits : (index : ℕ) → index < 256 → FitsName (own_name index)
own_fits index small = (name_reads.sound (codes "eth" ++ decimal index) (own_name index) (own_read index small)).1

text_of : (index : ℕ) → index < 256 → codes "eth" ++ decimal index ≡ name_text (own_name index)
text_of index small = (name_reads.sound (codes "eth" ++ decimal index) (own_name index) (own_read index small)).0

-- what stands behind three bytes
abbrev behind : List ℕ → List ℕ
behind text = drop 3 text

pub own_alone : (i j : ℕ) → i < 256 → j < 256 → own_name i ≡ own_name j → i ≡ j
own_alone i j one other same =
    let texts : codes "eth" ++ decimal i ≡ codes "eth" ++ decimal j = text_of i one ∙ ap name_text same ∙ sym (text_of j other) in
    decimal_injective i j (omega arith) (omega arith) (ap behind texts)
