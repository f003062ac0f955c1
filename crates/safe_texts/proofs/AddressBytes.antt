-- What the texts of addresses and networks are made of.
use Rattle.std.proofs.Common.{◌≡◌, ◌≢◌, ℕ, ◌+◌, true, List, [], ◌∷◌, ◌++◌, take, drop, refl, arith, ltb}
use Rattle.std.specs.Char.{is_ascii_digit}
use Rattle.std.specs.Fmt.{decimal}
use Rattle.std.specs.Net.Text.{dotted_text, groups_text, hex, hex_groups_text, longest_zero_run}
use Rattle.std.proofs.lemmas.Bool.{or_left}
use Rattle.std.proofs.lemmas.Bool.Decides.{nat_tests}
use Rattle.net_types.proofs.CaseLaws.{gated}
use Rattle.net_types.proofs.Ip6Marks.{is_ip6_byte, ip6_only}
use Rattle.net_types.proofs.MarkLaws.{only_weaker}
use Rattle.net_types.specs.declared.address.Ip4.{Ip4}
use Rattle.net_types.specs.declared.address.Ip6.{Ip6}
use Rattle.net_types.specs.declared.address.Net4.{Net4}
use Rattle.net_types.specs.declared.address.Net6.{Net6}
use Rattle.net_types.specs.AddressText.{ip4_text, ip6_text, net4_text, net6_text}
use Rattle.hook_env.specs.Lists.{route_text}
use Rattle.v4_options.specs.declared.routes.ClasslessRoute.{ClasslessRoute}
use Rattle.safe_texts.specs.Grammars.{IsMadeOf, IsPair, is_address4_byte, is_address6_byte, is_network4_byte, is_network6_byte}
use Rattle.safe_texts.proofs.NumberTexts.{decimal_made, filled, made_join, made_weaker}

-- ---- IPv4

digit_in4 : (b : ℕ) → is_ascii_digit b ≡ true → is_address4_byte b ≡ true
digit_in4 b h = or_left _ _ h

decimal_in4 : (n : ℕ) → IsMadeOf is_address4_byte (decimal n)
decimal_in4 n = made_weaker is_ascii_digit is_address4_byte (decimal n) digit_in4 (decimal_made n)

pub dotted_made : (a b c d : ℕ) → IsMadeOf is_address4_byte (dotted_text a b c d)
dotted_made a b c d =
    next (decimal a ++ 46 ∷ [] ++ decimal b ++ 46 ∷ [] ++ decimal c) d (next (decimal a ++ 46 ∷ [] ++ decimal b) c (next (decimal a) b (decimal_in4 a)))
  where
    next : (text : List ℕ) (n : ℕ) → IsMadeOf is_address4_byte text → IsMadeOf is_address4_byte (text ++ 46 ∷ [] ++ decimal n)
    next text n made = made_join is_address4_byte (text ++ 46 ∷ []) (decimal n) (made_join is_address4_byte text (46 ∷ []) made refl) (decimal_in4 n).only

pub ip4_made : (ip : Ip4) → IsMadeOf is_address4_byte (ip4_text ip)
unfolding ip4_text
ip4_made ip = dotted_made _ _ _ _

in_network4 : (b : ℕ) → is_address4_byte b ≡ true → is_network4_byte b ≡ true
in_network4 b h = or_left _ _ h

-- an address, a slash and a length
pub slash4_made : (address : List ℕ) → IsMadeOf is_address4_byte address → (len : ℕ) → IsMadeOf is_network4_byte (address ++ 47 ∷ [] ++ decimal len)
slash4_made address made len =
    made_join is_network4_byte (address ++ 47 ∷ []) (decimal len)
    (made_join is_network4_byte address (47 ∷ []) (made_weaker is_address4_byte is_network4_byte address in_network4 made) refl)
    (made_weaker is_address4_byte is_network4_byte (decimal len) in_network4 (decimal_in4 len)).only

net4_made : (net : Net4) → IsMadeOf is_network4_byte (net4_text net)
unfolding net4_text
net4_made net = slash4_made (ip4_text net.ip) (ip4_made net.ip) net.len

pub route_made : (route : ClasslessRoute) → IsPair (IsMadeOf is_network4_byte) (IsMadeOf is_address4_byte) (route_text route)
route_made route = record {
  first = net4_text route.dest;
  second = ip4_text route.via;
  is_first = net4_made route.dest;
  is_second = ip4_made route.via;
  parted = refl;
}

-- ---- IPv6

-- the run of zeros is written as two colons, or else the groups have colons between them
pair_some : (front rest : List ℕ) → front ++ 58 ∷ 58 ∷ [] ++ rest ≢ []
pair_some [] rest = filled 58 (58 ∷ rest)
pair_some (b ∷ front) rest = filled b (front ++ 58 ∷ 58 ∷ [] ++ rest)

behind_some : (front : List ℕ) (b : ℕ) (rest : List ℕ) → front ++ b ∷ rest ≢ []
behind_some [] b rest = filled b rest
behind_some (c ∷ front) b rest = filled c (front ++ b ∷ rest)

groups_some : (one two : ℕ) (rest : List ℕ) → groups_text (one ∷ two ∷ rest) ≢ []
groups_some one two rest = behind_some (hex one) 58 _

compressed_some : (one two : ℕ) (rest : List ℕ) → hex_groups_text (one ∷ two ∷ rest) ≢ []
unfolding hex_groups_text
compressed_some one two rest =
    let run : ℕ × ℕ = longest_zero_run (one ∷ two ∷ rest) in
    gated (λ (t : List ℕ). t ≢ []) (ltb 1 run.1) _ (groups_text (one ∷ two ∷ rest))
    (pair_some (groups_text (take run.0 (one ∷ two ∷ rest))) (groups_text (drop (run.0 + run.1) (one ∷ two ∷ rest)))) (groups_some one two rest)

ip6_byte_in : (b : ℕ) → is_ip6_byte b ≡ true → is_address6_byte b ≡ true
ip6_byte_in b h = grind (arith, nat_tests)

pub ip6_made : (ip : Ip6) → IsMadeOf is_address6_byte (ip6_text ip)
unfolding ip6_text
ip6_made ip = record { some = compressed_some _ _ _; only = only_weaker is_ip6_byte is_address6_byte (ip6_text ip) ip6_byte_in (ip6_only ip) }

in_network6 : (b : ℕ) → is_address6_byte b ≡ true → is_network6_byte b ≡ true
in_network6 b h = or_left _ _ h

digit_in6 : (b : ℕ) → is_ascii_digit b ≡ true → is_network6_byte b ≡ true
digit_in6 b h = grind (arith, nat_tests)

pub net6_made : (net : Net6) → IsMadeOf is_network6_byte (net6_text net)
unfolding net6_text
net6_made net =
    made_join is_network6_byte (ip6_text net.ip ++ 47 ∷ []) (decimal net.len)
    (made_join is_network6_byte (ip6_text net.ip) (47 ∷ [])
    (made_weaker is_address6_byte is_network6_byte (ip6_text net.ip) in_network6 (ip6_made net.ip)) refl)
    (made_weaker is_ascii_digit is_network6_byte (decimal net.len) digit_in6 (decimal_made net.len)).only
