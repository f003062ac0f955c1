-- Which bytes the printed forms of IPv6 addresses and of nets are made of.
use Rattle.std.proofs.Common.{◌≡◌, ℕ, zero, suc, ◌+◌, ◌/◌, ◌%◌, ◌<◌, Bool, true, false, cond, ◌||◌, List, [], ◌∷◌, ◌++◌, take, drop, refl, arith, eqb, ltb, flat_map}
use Rattle.std.specs.Char.{is_ascii_digit, digit_char}
use Rattle.std.specs.Fmt.{decimal}
use Rattle.std.specs.List.{AllByRecursion}
use Rattle.std.specs.Net.Text.{hex, leading_zero_digits, groups_text, longest_zero_run, hex_groups_text}
use Rattle.std.proofs.lemmas.Bool.{and_parts, and_from, or_left}
use Rattle.std.proofs.lemmas.Bool.Decides.{nat_tests}
use Rattle.net_types.specs.declared.address.Ip6.{Ip6}
use Rattle.net_types.specs.declared.address.Net.{Net}
use Rattle.net_types.specs.declared.address.Net.TheVariants.{V4, V6}
use Rattle.net_types.specs.declared.address.Net6.{Net6}
use Rattle.net_types.specs.Marks.{Only, Lacks, is_printable, IsPrintable}
use Rattle.net_types.specs.AddressText.{groups_of, ip6_text, net4_text, net6_text, FitsNet6, net_text, FitsNet}
use Rattle.net_types.proofs.MarkLaws.{only-append, only_weaker, lacks_from, is_hex_digit, digit_only, is_net4_byte, net4_only, decimal_only}

abbrev pub is_ip6_byte : ℕ → Bool
is_ip6_byte b = is_hex_digit b || eqb b 58

only_drop : (test : ℕ → Bool) (n : ℕ) (xs : List ℕ) → Only test xs → Only test (drop n xs)
only_drop test zero xs only = only
only_drop test (suc n) [] only = refl
only_drop test (suc n) (x ∷ xs) only = only_drop test n xs (and_parts (test x) _ only).1

abbrev pub AreGroups : List ℕ → Type 0
AreGroups groups = AllByRecursion (λ s. s < 65536) groups

groups_take : (n : ℕ) (ss : List ℕ) → AreGroups ss → AreGroups (take n ss)
groups_take zero ss small = tt
groups_take (suc n) [] small = tt
groups_take (suc n) (s ∷ ss) small = (small.0, groups_take n ss small.1)

groups_drop : (n : ℕ) (ss : List ℕ) → AreGroups ss → AreGroups (drop n ss)
groups_drop zero ss small = small
groups_drop (suc n) [] small = tt
groups_drop (suc n) (s ∷ ss) small = groups_drop n ss small.1

digit_in : (d : ℕ) → d < 16 → is_ip6_byte (digit_char d) ≡ true
digit_in d small = or_left _ _ (digit_only d small)

hex_in : (s : ℕ) → s < 65536 → Only is_ip6_byte (hex s)
unfolding hex
hex_in s small =
    let first : s / 4096 < 16 = omega arith in
    let second : s / 256 % 16 < 16 = omega arith in
    let third : s / 16 % 16 < 16 = omega arith in
    let fourth : s % 16 < 16 = omega arith in
    only_drop is_ip6_byte (leading_zero_digits s) (digit_char (s / 4096) ∷ digit_char (s / 256 % 16) ∷ digit_char (s / 16 % 16) ∷ digit_char (s % 16) ∷ [])
    (and_from _ _ (digit_in _ first) (and_from _ _ (digit_in _ second) (and_from _ _ (digit_in _ third) (and_from _ _ (digit_in _ fourth) refl))))

rest_in : (ss : List ℕ) → AreGroups ss → Only is_ip6_byte (flat_map (λ t. 58 ∷ hex t) ss)
rest_in [] small = refl
rest_in (s ∷ ss) small = only-append is_ip6_byte (58 ∷ hex s) (flat_map (λ t. 58 ∷ hex t) ss) (hex_in s small.0) (rest_in ss small.1)

groups_in : (ss : List ℕ) → AreGroups ss → Only is_ip6_byte (groups_text ss)
groups_in [] small = refl
groups_in (s ∷ ss) small = only-append is_ip6_byte (hex s) (flat_map (λ t. 58 ∷ hex t) ss) (hex_in s small.0) (rest_in ss small.1)

parted_in : (run : ℕ × ℕ) (ss : List ℕ) → AreGroups ss → Only is_ip6_byte (groups_text (take run.0 ss) ++ 58 ∷ 58 ∷ [] ++ groups_text (drop (run.0 + run.1) ss))
parted_in run ss small =
    only-append is_ip6_byte (groups_text (take run.0 ss) ++ 58 ∷ 58 ∷ []) (groups_text (drop (run.0 + run.1) ss))
    (only-append is_ip6_byte (groups_text (take run.0 ss)) (58 ∷ 58 ∷ []) (groups_in (take run.0 ss) (groups_take run.0 ss small)) refl)
    (groups_in (drop (run.0 + run.1) ss) (groups_drop (run.0 + run.1) ss small))

compressed_in : (ss : List ℕ) → AreGroups ss → Only is_ip6_byte (hex_groups_text ss)
unfolding hex_groups_text
compressed_in ss small =
    elim (ltb 1 (longest_zero_run ss).1) as
    (λ b. Only is_ip6_byte
    (cond b (groups_text (take (longest_zero_run ss).0 ss) ++ 58 ∷ 58 ∷ [] ++ groups_text (drop ((longest_zero_run ss).0 + (longest_zero_run ss).1) ss))
    (groups_text ss))) [
      | true ↦ parted_in (longest_zero_run ss) ss small
      | false ↦ groups_in ss small
    ]

pub ip6_only : (ip : Ip6) → Only is_ip6_byte (ip6_text ip)
unfolding ip6_text
ip6_only ip =
    compressed_in (groups_of ip.number)
    (omega arith, (omega arith, (omega arith, (omega arith, (omega arith, (omega arith, (omega arith, (omega arith, tt))))))))

pub ip6_lacks : (ip : Ip6) (byte : ℕ) → is_ip6_byte byte ≡ false → Lacks byte (ip6_text ip)
ip6_lacks ip byte other = lacks_from is_ip6_byte byte (ip6_text ip) other (ip6_only ip)

-- ---- nets

abbrev pub is_net_byte : ℕ → Bool
is_net_byte b = is_hex_digit b || (eqb b 46 || (eqb b 47 || eqb b 58))

ip6_in_net : (b : ℕ) → is_ip6_byte b ≡ true → is_net_byte b ≡ true
ip6_in_net b h = grind (arith, nat_tests)

net4_in_net : (b : ℕ) → is_net4_byte b ≡ true → is_net_byte b ≡ true
net4_in_net b h = grind (arith, nat_tests)

digit_in_net : (b : ℕ) → is_ascii_digit b ≡ true → is_net_byte b ≡ true
digit_in_net b h = grind (arith, nat_tests)

net6_in : (net : Net6) → FitsNet6 net → Only is_net_byte (net6_text net)
unfolding net6_text
net6_in net fits =
    only-append is_net_byte (ip6_text net.ip ++ 47 ∷ []) (decimal net.len)
    (only-append is_net_byte (ip6_text net.ip) (47 ∷ []) (only_weaker is_ip6_byte is_net_byte (ip6_text net.ip) ip6_in_net (ip6_only net.ip)) refl)
    (only_weaker is_ascii_digit is_net_byte (decimal net.len) digit_in_net (decimal_only net.len (let small = fits.prefix in omega arith)))

pub net_only : (net : Net) → FitsNet net → Only is_net_byte (net_text net)
unfolding net_text
net_only (V4 net) fits = only_weaker is_net4_byte is_net_byte (net4_text net) net4_in_net (net4_only net fits)
net_only (V6 net) fits = net6_in net fits

pub net_lacks : (net : Net) (byte : ℕ) → FitsNet net → is_net_byte byte ≡ false → Lacks byte (net_text net)
net_lacks net byte fits other = lacks_from is_net_byte byte (net_text net) other (net_only net fits)

net_byte_printable : (b : ℕ) → is_net_byte b ≡ true → is_printable b ≡ true
net_byte_printable b h = grind (arith, nat_tests)

pub net_printable : (net : Net) → FitsNet net → IsPrintable (net_text net)
net_printable net fits = only_weaker is_net_byte is_printable (net_text net) net_byte_printable (net_only net fits)
