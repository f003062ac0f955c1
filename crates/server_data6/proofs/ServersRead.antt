-- The servers of option 23 are read back.
use Rattle.std.proofs.Common.{◌≡◌, ℕ, suc, ◌*◌, ◌/◌, ◌%◌, true, List, [], ◌∷◌, length, Some, refl, ap, arith, eqb, ltb}
use Rattle.net_types.specs.declared.address.Ip6.{Ip6}
use Rattle.net_types.proofs.WireNumbers.{wide_back}
use Rattle.v6_options.specs.Readers.{addresses_in, dns6_in}
use Rattle.server_data6.specs.ReplyTexts.{servers_text}
use Rattle.server_data6.specs.ReadBack.{FitServers}

sixteen_each : (servers : List Ip6) → length (servers_text servers) ≡ length servers * 16
sixteen_each [] = refl
sixteen_each (first ∷ others) = let more = sixteen_each others in omega (arith, more)

addresses_back : (servers : List Ip6) → FitServers servers → addresses_in (length servers) (servers_text servers) ≡ servers
addresses_back [] fit = refl
addresses_back (first ∷ others) fit = λ i. record { number = wide_back first.number fit.0 i } ∷ addresses_back others fit.1 i

divided : (n : ℕ) → n * 16 / 16 ≡ n
divided n = omega arith

whole : (n : ℕ) → eqb (n * 16 % 16) 0 ≡ true
whole n = grind arith

filled : (n : ℕ) → ltb 0 (suc n * 16) ≡ true
filled n = grind arith

pub servers_read : (first : Ip6) (others : List Ip6) → FitServers (first ∷ others) → dns6_in (servers_text (first ∷ others)) ≡ Some (first ∷ others)
servers_read first others fit =
    let size : length (servers_text (first ∷ others)) ≡ suc (length others) * 16 = sixteen_each (first ∷ others) in
    rw (size, filled (length others), whole (suc (length others)), divided (suc (length others)))
    (ap (λ (servers : List Ip6). Some servers) (addresses_back (first ∷ others) fit))
