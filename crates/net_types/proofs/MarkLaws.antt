-- Which bytes the texts are made of, and so which separators they lack.
use Rattle.std.proofs.Common.{◌≡◌, ℕ, suc, ◌/◌, ◌%◌, ◌^◌, ◌<◌, Bool, true, false, not, ◌||◌, List, [], ◌∷◌, ◌++◌, get_or, refl, ap, arith, eqb, flat_map}
use Rattle.std.specs.Char.{is_ascii_digit, digit_char}
use Rattle.std.specs.Fmt.{decimal}
use Rattle.std.specs.Int.{is_in_range}
use Rattle.std.proofs.lemmas.Bool.{and_parts, and_from, or_left, eqb-true}
use Rattle.std.proofs.lemmas.Bool.Decides.{nat_tests}
use Rattle.std.proofs.lemmas.Fmt.{digits_decimal}
use Rattle.std.proofs.lemmas.List.Folds.{list_all-append}
use Rattle.std.specs.Net.Text.{dotted_text}
use Rattle.net_types.specs.declared.address.Ip4.{Ip4}
use Rattle.net_types.specs.declared.address.Net4.{Net4}
use Rattle.net_types.specs.declared.address.Mac.{Mac}
use Rattle.net_types.specs.Marks.{Only, Lacks, AreBytes, is_printable, IsPrintable}
use Rattle.net_types.specs.HexText.{byte_hex, hex_text}
use Rattle.net_types.specs.AddressText.{ip4_text, FitsIp4, net4_text, FitsNet4, colon_text, mac_text, FitsMac}
use Rattle.net_types.proofs.HexLaws.{hex_text_none, hex_text_some}
use Rattle.net_types.proofs.NumberLaws.{own}

-- ---- of any text

pub only-append : (test : ℕ → Bool) (xs ys : List ℕ) → Only test xs → Only test ys → Only test (xs ++ ys)
only-append test xs ys one other = rw list_all-append (and_from _ _ one other)

pub only_weaker : (test other : ℕ → Bool) (text : List ℕ) → ((b : ℕ) → test b ≡ true → other b ≡ true) → Only test text → Only other text
only_weaker test other [] more only = refl
only_weaker test other (b ∷ bs) more only =
    let parts = and_parts (test b) _ only in
    and_from _ _ (more b parts.0) (only_weaker test other bs more parts.1)

-- a byte that fails the test doesn't stand in a text of bytes that pass
pub lacks_from : (test : ℕ → Bool) (byte : ℕ) (text : List ℕ) → test byte ≡ false → Only test text → Lacks byte text
lacks_from test byte text fails only = only_weaker test (λ b. not (eqb b byte)) text other only
  where
    other : (b : ℕ) → test b ≡ true → not (eqb b byte) ≡ true
    other b passes =
        elim (eqb b byte) as (λ v. eqb b byte ≡ v → not v ≡ true) [
          | true ↦ λ t. let same : test b ≡ test byte = ap test (eqb-true _ _ t) in cc
          | false ↦ λ t. refl
        ] refl

pub lacks-append : (byte : ℕ) (xs ys : List ℕ) → Lacks byte xs → Lacks byte ys → Lacks byte (xs ++ ys)
lacks-append byte xs ys one other = only-append (λ b. not (eqb b byte)) xs ys one other

-- ---- numbers and pairs

pub decimal_only : (n : ℕ) → n < 2 ^ 64 → Only is_ascii_digit (decimal n)
decimal_only n small = digits_decimal own n small

pub decimal_lacks : (n byte : ℕ) → n < 2 ^ 64 → is_ascii_digit byte ≡ false → Lacks byte (decimal n)
decimal_lacks n byte small other = lacks_from is_ascii_digit byte (decimal n) other (decimal_only n small)

abbrev pub is_hex_digit : ℕ → Bool
is_hex_digit b = is_in_range 48 57 b || is_in_range 97 102 b

pub digit_only : (n : ℕ) → n < 16 → is_hex_digit (digit_char n) ≡ true
digit_only n small = grind (arith, nat_tests)

pub byte_only : (b : ℕ) → b < 256 → Only is_hex_digit (byte_hex b)
byte_only b small =
    let high : b / 16 < 16 = omega arith in
    let low : b % 16 < 16 = omega arith in
    and_from _ _ (digit_only (b / 16) high) (and_from _ _ (digit_only (b % 16) low) refl)

pub byte_lacks : (b byte : ℕ) → b < 256 → is_hex_digit byte ≡ false → Lacks byte (byte_hex b)
byte_lacks b byte small other = lacks_from is_hex_digit byte (byte_hex b) other (byte_only b small)

abbrev pub is_hex_byte : ℕ → Bool
is_hex_byte b = is_hex_digit b || eqb b 45

pub hex_only : (bytes : List ℕ) → AreBytes bytes → Only is_hex_byte (hex_text bytes)
hex_only [] fits = rw hex_text_none refl
hex_only (b ∷ bs) fits =
    rw (hex_text_some b bs) (only_weaker is_hex_digit is_hex_byte (flat_map byte_hex (b ∷ bs)) (λ c h. or_left _ _ h) (pairs_only (b ∷ bs) fits))
  where
    pairs_only : (bytes : List ℕ) → AreBytes bytes → Only is_hex_digit (flat_map byte_hex bytes)
    pairs_only [] fits = refl
    pairs_only (b ∷ bs) fits = only-append is_hex_digit (byte_hex b) (flat_map byte_hex bs) (byte_only b (fits 0)) (pairs_only bs (λ i. fits (suc i)))

pub hex_lacks : (bytes : List ℕ) (byte : ℕ) → AreBytes bytes → is_hex_byte byte ≡ false → Lacks byte (hex_text bytes)
hex_lacks bytes byte fits other = lacks_from is_hex_byte byte (hex_text bytes) other (hex_only bytes fits)

-- ---- addresses

abbrev pub is_ip4_byte : ℕ → Bool
is_ip4_byte b = is_ascii_digit b || eqb b 46

decimal_part : (n : ℕ) → n < 2 ^ 64 → Only is_ip4_byte (decimal n)
decimal_part n small = only_weaker is_ascii_digit is_ip4_byte (decimal n) (λ c h. or_left _ _ h) (decimal_only n small)

dotted_only : (a b c d : ℕ) → a < 2 ^ 64 → b < 2 ^ 64 → c < 2 ^ 64 → d < 2 ^ 64 → Only is_ip4_byte (dotted_text a b c d)
dotted_only a b c d sa sb sc sd =
    next (decimal a ++ 46 ∷ [] ++ decimal b ++ 46 ∷ [] ++ decimal c) d sd
    (next (decimal a ++ 46 ∷ [] ++ decimal b) c sc (next (decimal a) b sb (decimal_part a sa)))
  where
    next : (xs : List ℕ) (n : ℕ) → n < 2 ^ 64 → Only is_ip4_byte xs → Only is_ip4_byte (xs ++ 46 ∷ [] ++ decimal n)
    next xs n small only = only-append is_ip4_byte (xs ++ 46 ∷ []) (decimal n) (only-append is_ip4_byte xs (46 ∷ []) only refl) (decimal_part n small)

pub ip4_only : (ip : Ip4) → FitsIp4 ip → Only is_ip4_byte (ip4_text ip)
unfolding ip4_text
ip4_only ip fits =
    dotted_only (ip.number / 16777216) (ip.number / 65536 % 256) (ip.number / 256 % 256) (ip.number % 256) (omega arith) (omega arith) (omega arith)
    (omega arith)

pub ip4_lacks : (ip : Ip4) (byte : ℕ) → FitsIp4 ip → is_ip4_byte byte ≡ false → Lacks byte (ip4_text ip)
ip4_lacks ip byte fits other = lacks_from is_ip4_byte byte (ip4_text ip) other (ip4_only ip fits)

abbrev pub is_net4_byte : ℕ → Bool
is_net4_byte b = is_ip4_byte b || eqb b 47

pub net4_only : (net : Net4) → FitsNet4 net → Only is_net4_byte (net4_text net)
unfolding net4_text
net4_only net fits =
    only-append is_net4_byte (ip4_text net.ip ++ 47 ∷ []) (decimal net.len)
    (only-append is_net4_byte (ip4_text net.ip) (47 ∷ [])
    (only_weaker is_ip4_byte is_net4_byte (ip4_text net.ip) (λ c h. or_left _ _ h) (ip4_only net.ip fits.address)) refl)
    (only_weaker is_ascii_digit is_net4_byte (decimal net.len) (λ c h. or_left _ _ (or_left _ _ h))
    (decimal_only net.len (let small = fits.prefix in omega arith)))

pub net4_lacks : (net : Net4) (byte : ℕ) → FitsNet4 net → is_net4_byte byte ≡ false → Lacks byte (net4_text net)
net4_lacks net byte fits other = lacks_from is_net4_byte byte (net4_text net) other (net4_only net fits)

abbrev pub is_mac_byte : ℕ → Bool
is_mac_byte b = is_hex_digit b || eqb b 58

mac_byte_only : (b : ℕ) → b < 256 → Only is_mac_byte (byte_hex b)
mac_byte_only b small = only_weaker is_hex_digit is_mac_byte (byte_hex b) (λ c h. or_left _ _ h) (byte_only b small)

colon_only : (a b c d e f : ℕ) → a < 256 → b < 256 → c < 256 → d < 256 → e < 256 → f < 256 → Only is_mac_byte (colon_text a b c d e f)
colon_only a b c d e f sa sb sc sd se sf =
    next (byte_hex a ++ 58 ∷ [] ++ byte_hex b ++ 58 ∷ [] ++ byte_hex c ++ 58 ∷ [] ++ byte_hex d ++ 58 ∷ [] ++ byte_hex e) f sf (
    next (byte_hex a ++ 58 ∷ [] ++ byte_hex b ++ 58 ∷ [] ++ byte_hex c ++ 58 ∷ [] ++ byte_hex d) e se (
    next (byte_hex a ++ 58 ∷ [] ++ byte_hex b ++ 58 ∷ [] ++ byte_hex c) d sd
    (next (byte_hex a ++ 58 ∷ [] ++ byte_hex b) c sc (next (byte_hex a) b sb (mac_byte_only a sa)))))
  where
    next : (xs : List ℕ) (n : ℕ) → n < 256 → Only is_mac_byte xs → Only is_mac_byte (xs ++ 58 ∷ [] ++ byte_hex n)
    next xs n small only = only-append is_mac_byte (xs ++ 58 ∷ []) (byte_hex n) (only-append is_mac_byte xs (58 ∷ []) only refl) (mac_byte_only n small)

pub mac_only : (mac : Mac) → FitsMac mac → Only is_mac_byte (mac_text mac)
unfolding mac_text
mac_only mac fits =
    colon_only (get_or mac.bytes 0 0) (get_or mac.bytes 1 0) (get_or mac.bytes 2 0) (get_or mac.bytes 3 0) (get_or mac.bytes 4 0) (get_or mac.bytes 5 0)
    (fits.range 0) (fits.range 1) (fits.range 2) (fits.range 3) (fits.range 4) (fits.range 5)

pub mac_lacks : (mac : Mac) (byte : ℕ) → FitsMac mac → is_mac_byte byte ≡ false → Lacks byte (mac_text mac)
mac_lacks mac byte fits other = lacks_from is_mac_byte byte (mac_text mac) other (mac_only mac fits)

-- ---- printable

digit_printable : (b : ℕ) → is_ascii_digit b ≡ true → is_printable b ≡ true
digit_printable b h = grind (arith, nat_tests)

hex_byte_printable : (b : ℕ) → is_hex_byte b ≡ true → is_printable b ≡ true
hex_byte_printable b h = grind (arith, nat_tests)

ip4_byte_printable : (b : ℕ) → is_ip4_byte b ≡ true → is_printable b ≡ true
ip4_byte_printable b h = grind (arith, nat_tests)

net4_byte_printable : (b : ℕ) → is_net4_byte b ≡ true → is_printable b ≡ true
net4_byte_printable b h = grind (arith, nat_tests)

mac_byte_printable : (b : ℕ) → is_mac_byte b ≡ true → is_printable b ≡ true
mac_byte_printable b h = grind (arith, nat_tests)

pub decimal_printable : (n : ℕ) → n < 2 ^ 64 → IsPrintable (decimal n)
decimal_printable n small = only_weaker is_ascii_digit is_printable (decimal n) digit_printable (decimal_only n small)

pub hex_printable : (bytes : List ℕ) → AreBytes bytes → IsPrintable (hex_text bytes)
hex_printable bytes fits = only_weaker is_hex_byte is_printable (hex_text bytes) hex_byte_printable (hex_only bytes fits)

pub ip4_printable : (ip : Ip4) → FitsIp4 ip → IsPrintable (ip4_text ip)
ip4_printable ip fits = only_weaker is_ip4_byte is_printable (ip4_text ip) ip4_byte_printable (ip4_only ip fits)

pub net4_printable : (net : Net4) → FitsNet4 net → IsPrintable (net4_text net)
net4_printable net fits = only_weaker is_net4_byte is_printable (net4_text net) net4_byte_printable (net4_only net fits)

pub mac_printable : (mac : Mac) → FitsMac mac → IsPrintable (mac_text mac)
mac_printable mac fits = only_weaker is_mac_byte is_printable (mac_text mac) mac_byte_printable (mac_only mac fits)
