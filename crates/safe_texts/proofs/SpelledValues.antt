-- Values that are within their bounds are what their forms say.
use Rattle.std.proofs.Common.{◌≡◌, ◌≢◌, ℕ, zero, suc, ◌+◌, ◌-◌, ◌/◌, ◌%◌, ◌^◌, ◌<◌, ◌≤◌, true, not, ◌&&◌, List, [], ◌∷◌, ◌++◌, drop, length, map, replicate, take, Option, Some, None, IfSome, refl, arith, lit<, eqb, nat_le, ltb, decimal}
use Rattle.std.proofs.lemmas.Bool.{and_parts, eqb-true, false≢true}
use Rattle.std.proofs.lemmas.Bool.Decides.{nat_tests}
use Rattle.std.proofs.lemmas.Nat.{pow_pos}
use Rattle.std.specs.Int.{w16, from_be_bytes}
use Rattle.std.specs.List.{AllByRecursion}
use Rattle.std.specs.Option.{option_map}
use Rattle.hook_env.specs.Lists.{listed, route_text}
use Rattle.hook_env.specs.ValueTexts.{names6_text, servers6_text, value_text}
use Rattle.lease_text.specs.Leases.{first_byte, is_host_address}
use Rattle.v4_options.specs.declared.form.ValueForm.{ValueForm}
use Rattle.v4_options.specs.declared.form.ValueForm.TheVariants.{Address, Addresses, Number16, Number32, DomainName, DomainNames, Routes, Opaque}
use Rattle.net_types.proofs.CaseLaws.{gated}
use Rattle.net_types.proofs.Checksum.{append_bytes, drop_bytes, rest_bytes, take_bytes}
use Rattle.net_types.proofs.HexLaws.{cons_bytes, no_bytes}
use Rattle.net_types.proofs.Ip6Laws.{ip6_printed, net6_printed}
use Rattle.net_types.proofs.WireNumbers.{four_bytes_fit, sixteen_bytes_fit}
use Rattle.net_types.specs.AddressText.{FitsIp4, FitsIp6, FitsNet4, FitsNet6, ip4_text, ip6_text, net4_text, net6_text}
use Rattle.net_types.specs.Marks.{AreBytes}
use Rattle.net_types.specs.Networks.{address_count, mask_of}
use Rattle.net_types.specs.declared.address.Ip4.{Ip4}
use Rattle.net_types.specs.declared.address.Ip6.{Ip6}
use Rattle.net_types.specs.declared.address.Net4.{Net4}
use Rattle.net_types.specs.declared.address.Net6.{Net6}
use Rattle.v4_options.specs.declared.routes.ClasslessRoute.{ClasslessRoute}
use Rattle.v4_options.specs.Numbers.{addr_in, address, addresses, addrs_in, u16_in, u32_in}
use Rattle.v4_options.specs.Routes.{all_routes, has_route, network, route_of, routes_after, routes_in, sent_bytes}
use Rattle.v6_options.specs.Readers.{addresses_in, dns6_in, search6_in}
use Rattle.domain_names.specs.SearchList.{search_in}
use Rattle.safe_texts.specs.Grammars.{IsAddress4, IsAddress6, IsListOf, IsNetwork4, IsNetwork6, IsNumberBelow, IsOfForm, IsPair, Number, One, Spells, Address4, Address6, Route4}
use Rattle.safe_texts.specs.Grammars as grammar
use Rattle.safe_texts.proofs.DomainTexts.{AreSomeNames, search6_named, search_named, text_named}
use Rattle.safe_texts.specs.SafeVariables.{option_form}
use Rattle.safe_texts.proofs.FormedValues.{Filled, addrs_some, dns6_some, names_listed, of_read, routes_some}
use Rattle.safe_texts.proofs.NumberTexts.{chosen_by}
use Rattle.safe_texts.proofs.TextLists.{known_listed}

-- ---- numbers

pub number_below : (limit n : ℕ) → n < limit → IsNumberBelow limit (decimal n)
number_below limit n small = record { number = n; below = small; spelled = refl }

-- ---- IPv4

first_small : (n : ℕ) → n < 4294967296 → n / 16777216 < 256
first_small n small = omega arith

pub ip4_spelled : (ip : Ip4) → FitsIp4 ip → IsAddress4 (ip4_text ip)
unfolding ip4_text
ip4_spelled ip fits = record {
  octets = _;
  dotted = record {
    a = ip.number / 2 ^ 24;
    b = ip.number / 2 ^ 16 % 256;
    c = ip.number / 2 ^ 8 % 256;
    d = ip.number % 256;
    fit = (first_small ip.number fits, omega arith, omega arith, omega arith);
    value = refl;
    spelled = refl;
  };
}

pub net4_spelled : (net : Net4) → FitsNet4 net → IsNetwork4 (net4_text net)
unfolding net4_text
net4_spelled net fits = record {
  address = ip4_text net.ip;
  is_address = ip4_spelled net.ip fits.address;
  len = net.len;
  short = fits.prefix;
  spelled = refl;
}

at_most : (m n : ℕ) → nat_le m n ≡ true → m ≤ n
at_most m n h = grind (arith, nat_tests)

pub host_fits : (ip : Ip4) → is_host_address ip ≡ true → FitsIp4 ip
host_fits ip h =
    let two = and_parts (nat_le 1 (first_byte ip) && nat_le (first_byte ip) 223) (not (eqb (first_byte ip) 127)) h in
    let one = and_parts (nat_le 1 (first_byte ip)) (nat_le (first_byte ip) 223) two.0 in
    let most : first_byte ip ≤ 223 = at_most (first_byte ip) 223 one.1 in
    omega (arith, most)

pub mask_fits : (len : ℕ) → FitsIp4 (mask_of len)
mask_fits len = let some : 0 < address_count len = pow_pos (32 - len) in omega (arith, some)

-- ---- values of options

address_fits : (octets : List ℕ) → AreBytes octets → FitsIp4 (address octets)
address_fits octets h = four_bytes_fit octets h

addr_fits : (value : List ℕ) → AreBytes value → IfSome (addr_in value) FitsIp4
addr_fits value h = gated (λ (o : Option Ip4). IfSome o FitsIp4) (eqb (length value) 4) (Some (address value)) None (address_fits value h) tt

each_fits : (value : List ℕ) → AreBytes value → AllByRecursion FitsIp4 (addresses value)
unfolding addresses
each_fits [] h = tt
each_fits (a ∷ []) h = tt
each_fits (a ∷ b ∷ []) h = tt
each_fits (a ∷ b ∷ c ∷ []) h = tt
each_fits (a ∷ b ∷ c ∷ d ∷ rest) h = (
  address_fits (a ∷ b ∷ c ∷ d ∷ []) (take_bytes 4 (a ∷ b ∷ c ∷ d ∷ rest) h),
  each_fits rest (drop_bytes 4 (a ∷ b ∷ c ∷ d ∷ rest) h),
)

-- what is known of each of them, where there are some
record AreSome {A : Type 0} (P : A → Type 0) (xs : List A) : Type 0 where
  some : xs ≢ []
  each : AllByRecursion P xs

both : {A : Type 0} (P : A → Type 0) (found : Option (List A)) → IfSome found Filled → IfSome found (AllByRecursion P) → IfSome found (AreSome P)
both P None some each = tt
both P (Some xs) some each = record { some = some; each = each }

addrs_fit : (value : List ℕ) → AreBytes value → IfSome (addrs_in value) (AllByRecursion FitsIp4)
addrs_fit value h =
    gated (λ (o : Option (List Ip4)). IfSome o (AllByRecursion FitsIp4)) (ltb 0 (length value) && eqb (length value % 4) 0) (Some (addresses value)) None
    (each_fits value h) tt

two_small : (value : List ℕ) → AreBytes value → eqb (length value) 2 ≡ true → from_be_bytes w16 value < 2 ^ 16
two_small [] h e = absurd (false≢true e)
two_small (a ∷ []) h e = absurd (false≢true e)
two_small (a ∷ b ∷ []) h e = omega (arith, h 0, h 1)
two_small (a ∷ b ∷ c ∷ rest) h e = let two = eqb-true (length (a ∷ b ∷ c ∷ rest)) 2 e in absurd (omega (arith, two))

u16_fits : (value : List ℕ) → AreBytes value → IfSome (u16_in value) (λ n. n < 2 ^ 16)
u16_fits value h =
    chosen_by (λ (o : Option ℕ). IfSome o (λ n. n < 2 ^ 16)) (eqb (length value) 2) (Some (from_be_bytes w16 value)) None (two_small value h) (λ e. tt)

u32_fits : (value : List ℕ) → AreBytes value → IfSome (u32_in value) (λ n. n < 2 ^ 32)
u32_fits value h = gated (λ (o : Option ℕ). IfSome o (λ n. n < 2 ^ 32)) (eqb (length value) 4) (Some _) None (four_bytes_fit value h) tt

-- ---- routes

record FitsRoute (route : ClasslessRoute) : Type 0 where
  dest : FitsNet4 route.dest
  via : FitsIp4 route.via

zeros : (n : ℕ) → AreBytes (replicate n 0)
zeros zero = no_bytes
zeros (suc n) = cons_bytes 0 (replicate n 0) (lit< tt) (zeros n)

network_fits : (width : ℕ) (sent : List ℕ) → width ≤ 32 → AreBytes sent → FitsNet4 (network width sent)
network_fits width sent short h =
    let whole : FitsIp4 (address (sent ++ replicate (4 - length sent) 0)) =
    address_fits (sent ++ replicate (4 - length sent) 0) (append_bytes sent (replicate (4 - length sent) 0) h (zeros (4 - length sent))) in
    record { address = omega (arith, whole); prefix = short }

route_fits : (width : ℕ) (rest : List ℕ) → AreBytes rest → has_route width rest ≡ true → FitsRoute (route_of width rest)
route_fits width rest h has = record {
  dest = network_fits width (take (sent_bytes width) rest) (at_most width 32 (and_parts (nat_le width 32) (nat_le (sent_bytes width + 4) (length rest)) has).0)
      (take_bytes (sent_bytes width) rest h);
  via = address_fits (take 4 (drop (sent_bytes width) rest)) (take_bytes 4 (drop (sent_bytes width) rest) (drop_bytes (sent_bytes width) rest h));
}

abbrev RoutesFit : Option (List ClasslessRoute) → Type 0
RoutesFit found = IfSome found (AllByRecursion FitsRoute)

one_more : (route : ClasslessRoute) (found : Option (List ClasslessRoute)) → FitsRoute route → RoutesFit found
    → RoutesFit (option_map (λ routes. route ∷ routes) found)
one_more route None fits others = tt
one_more route (Some routes) fits others = (fits, others)

routes_fit : (skip : ℕ) (value : List ℕ) → AreBytes value → RoutesFit (routes_after skip value)
routes_fit zero [] h = tt
routes_fit (suc k) [] h = tt
routes_fit (suc k) (b ∷ rest) h = routes_fit k rest (rest_bytes b rest h)
routes_fit zero (width ∷ rest) h =
    let later : RoutesFit (routes_after (sent_bytes width + 4) rest) = routes_fit (sent_bytes width + 4) rest (rest_bytes width rest h) in
    chosen_by RoutesFit (has_route width rest) (option_map (λ routes. route_of width rest ∷ routes) (routes_after (sent_bytes width + 4) rest)) None
    (λ has. one_more (route_of width rest) (routes_after (sent_bytes width + 4) rest) (route_fits width rest (rest_bytes width rest h) has) later) (λ e. tt)

all_fit : (value : List ℕ) → AreBytes value → RoutesFit (routes_in value)
unfolding all_routes
all_fit value h = gated RoutesFit (ltb 0 (length value)) (routes_after 0 value) None (routes_fit 0 value h) tt

route_spelled : (route : ClasslessRoute) → FitsRoute route → IsPair IsNetwork4 IsAddress4 (route_text route)
route_spelled route fits = record {
  first = net4_text route.dest;
  second = ip4_text route.via;
  is_first = net4_spelled route.dest fits.dest;
  is_second = ip4_spelled route.via fits.via;
  parted = refl;
}

-- ---- IPv6

pub ip6_spelled : (ip : Ip6) → FitsIp6 ip → IsAddress6 (ip6_text ip)
ip6_spelled ip fits = record { ip = ip; reads = ip6_printed ip fits; printed = refl }

pub net6_spelled : (net : Net6) → FitsNet6 net → IsNetwork6 (net6_text net)
net6_spelled net fits = record { net = net; reads = net6_printed net fits; printed = refl }

some_fit : (count : ℕ) (value : List ℕ) → AreBytes value → AllByRecursion FitsIp6 (addresses_in count value)
some_fit zero value h = tt
some_fit (suc count) value h = (
  sixteen_bytes_fit (take 16 value) (take_bytes 16 value h),
  some_fit count (drop 16 value) (drop_bytes 16 value h),
)

dns6_fit : (value : List ℕ) → AreBytes value → IfSome (dns6_in value) (AllByRecursion FitsIp6)
dns6_fit value h =
    gated (λ (o : Option (List Ip6)). IfSome o (AllByRecursion FitsIp6)) (ltb 0 (length value) && eqb (length value % 16) 0)
    (Some (addresses_in (length value / 16) value)) None (some_fit (length value / 16) value h) tt

-- ---- the texts

-- a list of values of which something is known
list_spelled : {A : Type 0} (P : A → Type 0) (Is : List ℕ → Type 0) (text_of : A → List ℕ) → ((x : A) → P x → Is (text_of x)) → (found : Option (List A))
    → IfSome found Filled → IfSome found (AllByRecursion P) → IfSome (option_map (λ xs. listed (map text_of xs)) found) (IsListOf Is)
list_spelled {A} P Is text_of spelled found some each =
    of_read (AreSome P) (IsListOf Is) (λ (xs : List A). listed (map text_of xs)) (λ xs are. known_listed P Is text_of spelled xs are.some are.each) found
    (both P found some each)

pub value_spelled : (form : ValueForm) (value : List ℕ) → AreBytes value → IfSome (value_text form value) (IsOfForm (option_form form))
value_spelled Address value h = of_read FitsIp4 IsAddress4 ip4_text ip4_spelled (addr_in value) (addr_fits value h)
value_spelled Addresses value h = list_spelled FitsIp4 IsAddress4 ip4_text ip4_spelled (addrs_in value) (addrs_some value) (addrs_fit value h)
value_spelled Number16 value h = of_read (λ n. n < 2 ^ 16) (IsNumberBelow (2 ^ 16)) decimal (number_below (2 ^ 16)) (u16_in value) (u16_fits value h)
value_spelled Number32 value h = of_read (λ n. n < 2 ^ 32) (IsNumberBelow (2 ^ 32)) decimal (number_below (2 ^ 32)) (u32_in value) (u32_fits value h)
value_spelled DomainName value h = text_named value
value_spelled DomainNames value h = of_read AreSomeNames (IsListOf (Spells grammar.DomainName)) listed names_listed (search_in value) (search_named value)
value_spelled Routes value h =
    list_spelled FitsRoute (IsPair IsNetwork4 IsAddress4) route_text route_spelled (routes_in value) (routes_some value) (all_fit value h)
value_spelled Opaque value h = tt

pub servers6_spelled : (value : List ℕ) → AreBytes value → IfSome (servers6_text value) (IsListOf IsAddress6)
servers6_spelled value h = list_spelled FitsIp6 IsAddress6 ip6_text ip6_spelled (dns6_in value) (dns6_some value) (dns6_fit value h)

pub names6_spelled : (value : List ℕ) → IfSome (names6_text value) (IsListOf (Spells grammar.DomainName))
names6_spelled value = of_read AreSomeNames (IsListOf (Spells grammar.DomainName)) listed names_listed (search6_in value) (search6_named value)
