-- Addresses and nets: what is read is spelled so, and what is spelled so is read.
use Rattle.std.proofs.Common.{◌≡◌, ℕ, ◌+◌, ◌*◌, ◌/◌, ◌%◌, ◌^◌, ◌<◌, List, [], ◌∷◌, ◌++◌, length, get_or, Option, option_map, refl, ap, arith}
use Rattle.std.specs.Fmt.{decimal}
use Rattle.std.proofs.lemmas.List.{append_assoc}
use Rattle.net_types.specs.declared.address.Ip4.{Ip4}
use Rattle.net_types.specs.declared.address.Net4.{Net4}
use Rattle.net_types.specs.declared.address.Mac.{Mac}
use Rattle.net_types.specs.Reads.{Reads}
use Rattle.net_types.specs.Marks.{AreBytes, Lacks}
use Rattle.net_types.specs.Cutting.{pair_at}
use Rattle.net_types.specs.Numbers.{number_at}
use Rattle.net_types.specs.HexText.{byte_hex, hex_byte_at}
use Rattle.net_types.specs.AddressText.{ip4_text, ip4_at, FitsIp4, net4_text, net4_at, FitsNet4, mac_text, mac_at, FitsMac}
use Rattle.net_types.proofs.ReadsLaws.{steps_assoc, pair_reads, map_reads, same_reader, same_texts}
use Rattle.net_types.proofs.HexLaws.{hex_byte_reads, cons_bytes, no_bytes}
use Rattle.net_types.proofs.MarkLaws.{decimal_lacks, byte_lacks, ip4_lacks}
use Rattle.net_types.proofs.NumberLaws.{number_reads}

abbrev Octets : Type 0
Octets = ℕ × (ℕ × (ℕ × ℕ))

octets_at : List ℕ → Option Octets
octets_at text = pair_at 46 (number_at 256) (pair_at 46 (number_at 256) (pair_at 46 (number_at 256) (number_at 256))) text

abbrev ip4_make : Octets → Ip4
ip4_make p = record { number = p.0 * 2 ^ 24 + p.1.0 * 2 ^ 16 + p.1.1.0 * 2 ^ 8 + p.1.1.1 }

abbrev octets_of : Ip4 → Octets
octets_of ip = (ip.number / 2 ^ 24, (ip.number / 2 ^ 16 % 256, (ip.number / 2 ^ 8 % 256, ip.number % 256)))

ip4_steps : (text : List ℕ) → ip4_at text ≡ option_map ip4_make (octets_at text)
unfolding ip4_at octets_at
ip4_steps text = simp steps_assoc

back : (a b c d : ℕ) → a < 256 → b < 256 → c < 256 → d < 256 → octets_of (ip4_make (a, (b, (c, d)))) ≡ (a, (b, (c, d)))
back a b c d sa sb sc sd =
    let n = a * 16777216 + b * 65536 + c * 256 + d in
    let first : n / 16777216 ≡ a = omega arith in
    let second : n / 65536 % 256 ≡ b = omega arith in
    let third : n / 256 % 256 ≡ c = omega arith in
    let fourth : n % 256 ≡ d = omega arith in
    rw (first, second, third, fourth) refl

there : (n : ℕ) → n / 16777216 * 16777216 + n / 65536 % 256 * 65536 + n / 256 % 256 * 256 + n % 256 ≡ n
there n = omega arith

abbrev FitsOctets : Octets → Type 0
FitsOctets p = (p.0 < 256) × ((p.1.0 < 256) × ((p.1.1.0 < 256) × (p.1.1.1 < 256)))

abbrev octets_text : Octets → List ℕ
octets_text p = decimal p.0 ++ 46 ∷ (decimal p.1.0 ++ 46 ∷ (decimal p.1.1.0 ++ 46 ∷ decimal p.1.1.1))

octet_reads : Reads decimal (λ n. n < 256) (number_at 256)
octet_reads = number_reads 256 (omega arith)

no_dot : (n : ℕ) → n < 256 → Lacks 46 (decimal n)
no_dot n small = decimal_lacks n 46 (omega arith) refl

octets_reads : Reads octets_text FitsOctets octets_at
unfolding octets_at
octets_reads = pair_reads 46 octet_reads (pair_reads 46 octet_reads (pair_reads 46 octet_reads octet_reads no_dot) no_dot) no_dot

text_of_octets : (ip : Ip4) → ip4_text ip ≡ octets_text (octets_of ip)
unfolding ip4_text
text_of_octets ip = simp append_assoc

pub ip4_reads : Reads ip4_text FitsIp4 ip4_at
ip4_reads =
    same_reader ip4_at ip4_steps
    (same_texts ip4_text text_of_octets
    (map_reads ip4_make octets_of octets_reads
    (λ p fits. back p.0 p.1.0 p.1.1.0 p.1.1.1 fits.0 fits.1.0 fits.1.1.0 fits.1.1.1)
    (λ ip fits. ap (λ n. record { number = n }) (there ip.number))
    (λ p fits. in_range p.0 p.1.0 p.1.1.0 p.1.1.1 fits.0 fits.1.0 fits.1.1.0 fits.1.1.1)
    (λ ip fits. (first ip.number fits, (omega arith, (omega arith, omega arith))))))
  where
    in_range : (a b c d : ℕ) → a < 256 → b < 256 → c < 256 → d < 256 → a * 16777216 + b * 65536 + c * 256 + d < 4294967296
    in_range a b c d sa sb sc sd = omega arith

    first : (n : ℕ) → n < 4294967296 → n / 16777216 < 256
    first n fits = omega arith

-- ---- nets

net4_steps : (text : List ℕ) → net4_at text ≡ option_map (λ p. record { ip = p.0; len = p.1 }) (pair_at 47 ip4_at (number_at 33) text)
unfolding net4_at
net4_steps text = simp steps_assoc

net4_parts : (net : Net4) → net4_text net ≡ ip4_text net.ip ++ 47 ∷ decimal net.len
unfolding net4_text
net4_parts net = simp append_assoc

pub net4_reads : Reads net4_text FitsNet4 net4_at
net4_reads =
    same_reader net4_at net4_steps
    (same_texts net4_text net4_parts
    (map_reads (λ p. record { ip = p.0; len = p.1 }) (λ net. (net.ip, net.len))
    (pair_reads 47 ip4_reads (number_reads 33 (omega arith)) (λ ip fits. ip4_lacks ip 47 fits refl))
    (λ p fits. refl)
    (λ net fits. refl)
    (λ p fits. record { address = fits.0; prefix = (let below : p.1 < 33 = fits.1 in omega arith) })
    (λ net fits. (fits.address, (let small = fits.prefix in omega arith)))))

-- ---- hardware addresses

abbrev Six : Type 0
Six = ℕ × (ℕ × (ℕ × (ℕ × (ℕ × ℕ))))

six_at : List ℕ → Option Six
six_at text = pair_at 58 hex_byte_at (pair_at 58 hex_byte_at (pair_at 58 hex_byte_at (pair_at 58 hex_byte_at (pair_at 58 hex_byte_at hex_byte_at)))) text

abbrev FitsSix : Six → Type 0
FitsSix p = (p.0 < 256) × ((p.1.0 < 256) × ((p.1.1.0 < 256) × ((p.1.1.1.0 < 256) × ((p.1.1.1.1.0 < 256) × (p.1.1.1.1.1 < 256)))))

abbrev six_text : Six → List ℕ
six_text p =
    byte_hex p.0 ++ 58 ∷ (byte_hex p.1.0 ++ 58 ∷ (byte_hex p.1.1.0 ++ 58 ∷ (byte_hex p.1.1.1.0 ++ 58 ∷ (byte_hex p.1.1.1.1.0 ++ 58 ∷ byte_hex p.1.1.1.1.1))))

no_colon : (b : ℕ) → b < 256 → Lacks 58 (byte_hex b)
no_colon b small = byte_lacks b 58 small refl

six_reads : Reads six_text FitsSix six_at
unfolding six_at
six_reads =
    pair_reads 58 hex_byte_reads
    (pair_reads 58 hex_byte_reads
    (pair_reads 58 hex_byte_reads (pair_reads 58 hex_byte_reads (pair_reads 58 hex_byte_reads hex_byte_reads no_colon) no_colon) no_colon) no_colon)
    no_colon

abbrev mac_make : Six → Mac
mac_make p = record { bytes = p.0 ∷ p.1.0 ∷ p.1.1.0 ∷ p.1.1.1.0 ∷ p.1.1.1.1.0 ∷ p.1.1.1.1.1 ∷ [] }

abbrev six_of : Mac → Six
six_of mac = (get_or mac.bytes 0 0, (get_or mac.bytes 1 0, (get_or mac.bytes 2 0, (get_or mac.bytes 3 0, (get_or mac.bytes 4 0, get_or mac.bytes 5 0)))))

mac_steps : (text : List ℕ) → mac_at text ≡ option_map mac_make (six_at text)
unfolding mac_at six_at
mac_steps text = simp steps_assoc

six_cells : (bytes : List ℕ) → length bytes ≡ 6
    → get_or bytes 0 0 ∷ get_or bytes 1 0 ∷ get_or bytes 2 0 ∷ get_or bytes 3 0 ∷ get_or bytes 4 0 ∷ get_or bytes 5 0 ∷ [] ≡ bytes
six_cells (a ∷ b ∷ c ∷ d ∷ e ∷ f ∷ []) six = refl
six_cells [] six = absurd (omega arith)
six_cells (a ∷ []) six = absurd (omega arith)
six_cells (a ∷ b ∷ []) six = absurd (omega arith)
six_cells (a ∷ b ∷ c ∷ []) six = absurd (omega arith)
six_cells (a ∷ b ∷ c ∷ d ∷ []) six = absurd (omega arith)
six_cells (a ∷ b ∷ c ∷ d ∷ e ∷ []) six = absurd (omega arith)
six_cells (a ∷ b ∷ c ∷ d ∷ e ∷ f ∷ g ∷ rest) six = absurd (omega arith)

mac_of_cells : (mac : Mac) → FitsMac mac → mac_make (six_of mac) ≡ mac
mac_of_cells mac fits = ap (λ bs. record { bytes = bs }) (six_cells mac.bytes fits.six)

mac_parts : (mac : Mac) → mac_text mac ≡ six_text (six_of mac)
unfolding mac_text
mac_parts mac = simp append_assoc

six_bytes : (a b c d e f : ℕ) → FitsSix (a, (b, (c, (d, (e, f))))) → AreBytes (a ∷ b ∷ c ∷ d ∷ e ∷ f ∷ [])
six_bytes a b c d e f fits =
    cons_bytes a (b ∷ c ∷ d ∷ e ∷ f ∷ []) fits.0
    (cons_bytes b (c ∷ d ∷ e ∷ f ∷ []) fits.1.0
    (cons_bytes c (d ∷ e ∷ f ∷ []) fits.1.1.0
    (cons_bytes d (e ∷ f ∷ []) fits.1.1.1.0
    (cons_bytes e (f ∷ []) fits.1.1.1.1.0 (cons_bytes f [] fits.1.1.1.1.1 no_bytes)))))

pub mac_reads : Reads mac_text FitsMac mac_at
mac_reads =
    same_reader mac_at mac_steps
    (same_texts mac_text mac_parts
    (map_reads mac_make six_of six_reads
    (λ p fits. refl)
    mac_of_cells
    (λ p fits. record { six = refl; range = six_bytes p.0 p.1.0 p.1.1.0 p.1.1.1.0 p.1.1.1.1.0 p.1.1.1.1.1 fits })
    (λ mac fits. (fits.range 0, (fits.range 1, (fits.range 2, (fits.range 3, (fits.range 4, fits.range 5))))))))
