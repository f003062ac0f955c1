-- Numbers and addresses of an ACK are read back.
use Rattle.std.proofs.Common.{◌≡◌, ℕ, suc, ◌*◌, ◌<◌, ◌%◌, ◌^◌, true, List, [], ◌∷◌, length, Option, Some, None, refl, ap, arith, eqb, ltb}
use Rattle.std.specs.Prelude.{IfSome}
use Rattle.std.specs.Option.{option_map, option_and_then}
use Rattle.std.specs.List.{AllByRecursion}
use Rattle.std.proofs.lemmas.Nat.{from_be_bytes-to_be_bytes_2, from_be_bytes-to_be_bytes_4}
use Rattle.net_types.specs.declared.address.Ip4.{Ip4}
use Rattle.net_types.specs.Fields.{u16_octets, u32_octets, ip4_octets}
use Rattle.v4_options.specs.Numbers.{u16_in, u32_in, addr_in, addrs_in, addresses}
use Rattle.granted_values.specs.ValueTexts.{addresses_text, addresses_value}
use Rattle.granted_values.specs.ReadBack.{if_any, FitsAddress}

pub number16_back : (n : Option ℕ) → IfSome n (λ k. k < 2 ^ 16) → option_and_then u16_in (option_map u16_octets n) ≡ n
number16_back None fits = refl
number16_back (Some n) fits = ap (λ (k : ℕ). Some k) (from_be_bytes-to_be_bytes_2 n fits)

pub number_back : (n : Option ℕ) → IfSome n (λ k. k < 2 ^ 32) → option_and_then u32_in (option_map u32_octets n) ≡ n
number_back None fits = refl
number_back (Some n) fits = ap (λ (k : ℕ). Some k) (from_be_bytes-to_be_bytes_4 n fits)

pub address_back : (ip : Option Ip4) → IfSome ip FitsAddress → option_and_then addr_in (option_map ip4_octets ip) ≡ ip
address_back None fits = refl
address_back (Some ip) fits = λ i. Some (record { number = from_be_bytes-to_be_bytes_4 ip.number fits i })

four_each : (ips : List Ip4) → length (addresses_text ips) ≡ length ips * 4
four_each [] = refl
four_each (first ∷ others) = let more = four_each others in omega (arith, more)

all_back : (ips : List Ip4) → AllByRecursion FitsAddress ips → addresses (addresses_text ips) ≡ ips
unfolding addresses
all_back [] fit = refl
all_back (first ∷ others) fit = λ i. record { number = from_be_bytes-to_be_bytes_4 first.number fit.0 i } ∷ all_back others fit.1 i

whole : (n : ℕ) → eqb (n * 4 % 4) 0 ≡ true
whole n = grind arith

filled : (n : ℕ) → ltb 0 (suc n * 4) ≡ true
filled n = grind arith

pub addresses_back : (ips : List Ip4) → AllByRecursion FitsAddress ips → option_and_then addrs_in (addresses_value ips) ≡ if_any ips
addresses_back [] fit = refl
addresses_back (first ∷ others) fit =
    let size : length (addresses_text (first ∷ others)) ≡ suc (length others) * 4 = four_each (first ∷ others) in
    rw (size, filled (length others), whole (suc (length others)))
    (ap (λ (ips : List Ip4). Some ips) (all_back (first ∷ others) fit))
