-- The texts of addresses and nets. IPv6 is printed as RFC 5952 says.
use Rattle.std.specs.Prelude.{◌≡◌, ℕ, ◌+◌, ◌*◌, ◌/◌, ◌%◌, ◌^◌, ◌<◌, ◌≤◌, List, [], ◌∷◌, ◌++◌, length, slice_index, Option, Some, codes, decimal}
use Rattle.std.specs.Net.Text.{dotted_text, hex_groups_text}
use Rattle.net_types.specs.declared.address.Ip4.{Ip4}
use Rattle.net_types.specs.declared.address.Ip6.{Ip6}
use Rattle.net_types.specs.declared.address.Net4.{Net4}
use Rattle.net_types.specs.declared.address.Net6.{Net6}
use Rattle.net_types.specs.declared.address.Net.{Net}
use Rattle.net_types.specs.declared.address.Net.TheVariants.{V4, V6}
use Rattle.net_types.specs.declared.address.Mac.{Mac}
use Rattle.net_types.specs.Cutting.{◌>>=◌, field_at}
use Rattle.net_types.specs.Numbers.{number_at}
use Rattle.net_types.specs.HexText.{byte_hex, hex_byte_at}
use Rattle.net_types.specs.Marks.{AreBytes}

-- four decimal numbers with dots between them
unfoldable pub ip4_text : Ip4 → List ℕ
ip4_text ip =
    dotted_text (ip.number / 2 ^ 24) (ip.number / 2 ^ 16 % 256) (ip.number / 2 ^ 8 % 256)
    (ip.number % 256)

abbrev pub FitsIp4 : Ip4 → Type 0
FitsIp4 ip = ip.number < 2 ^ 32

-- the eight groups of an IPv6 address (RFC 4291, section 2.2)
abbrev pub group_of : ℕ → ℕ → ℕ
group_of n shift = n / 2 ^ shift % 65536

abbrev pub groups_of : ℕ → List ℕ
groups_of n =
    group_of n 112 ∷ group_of n 96 ∷ group_of n 80 ∷ group_of n 64 ∷ group_of n 48 ∷ group_of n 32
    ∷ group_of n 16 ∷ group_of n 0 ∷ []

-- lower-case groups without leading zeros, the longest run of zero groups as `::` (RFC 5952, section 4)
unfoldable pub ip6_text : Ip6 → List ℕ
ip6_text ip = hex_groups_text (groups_of ip.number)

abbrev pub FitsIp6 : Ip6 → Type 0
FitsIp6 ip = ip.number < 2 ^ 128

-- the address, a slash and the prefix length
unfoldable pub net4_text : Net4 → List ℕ
net4_text net = ip4_text net.ip ++ codes "/" ++ decimal net.len

pub record FitsNet4 (net : Net4) : Type 0 where
  pub address : FitsIp4 net.ip
  pub prefix : net.len ≤ 32

unfoldable pub net6_text : Net6 → List ℕ
net6_text net = ip6_text net.ip ++ codes "/" ++ decimal net.len

pub record FitsNet6 (net : Net6) : Type 0 where
  pub address : FitsIp6 net.ip
  pub prefix : net.len ≤ 128

unfoldable pub net_text : Net → List ℕ
net_text (V4 net) = net4_text net
net_text (V6 net) = net6_text net

abbrev pub FitsNet : Net → Type 0
FitsNet (V4 net) = FitsNet4 net
FitsNet (V6 net) = FitsNet6 net

-- six pairs with colons between them
abbrev pub colon_text : ℕ → ℕ → ℕ → ℕ → ℕ → ℕ → List ℕ
colon_text a b c d e f =
    byte_hex a ++ codes ":" ++ byte_hex b ++ codes ":" ++ byte_hex c ++ codes ":" ++ byte_hex d
    ++ codes ":" ++ byte_hex e ++ codes ":" ++ byte_hex f

unfoldable pub mac_text : Mac → List ℕ
mac_text mac =
    colon_text (slice_index mac.bytes 0) (slice_index mac.bytes 1) (slice_index mac.bytes 2)
    (slice_index mac.bytes 3) (slice_index mac.bytes 4) (slice_index mac.bytes 5)

pub record FitsMac (mac : Mac) : Type 0 where
  pub six : length mac.bytes ≡ 6
  pub range : AreBytes mac.bytes

-- how they are read
abbrev pub octet_at : List ℕ → Option (ℕ × List ℕ)
octet_at text = field_at 46 (number_at 256) text

unfoldable pub ip4_at : List ℕ → Option Ip4
ip4_at text = do
  a ← octet_at text
  b ← octet_at a.1
  c ← octet_at b.1
  d ← number_at 256 c.1
  Some (record { number = a.0 * 2 ^ 24 + b.0 * 2 ^ 16 + c.0 * 2 ^ 8 + d })

unfoldable pub net4_at : List ℕ → Option Net4
net4_at text = do
  ip ← field_at 47 ip4_at text
  len ← number_at 33 ip.1
  Some (record { ip = ip.0; len = len })

abbrev pub mac_byte_at : List ℕ → Option (ℕ × List ℕ)
mac_byte_at text = field_at 58 hex_byte_at text

unfoldable pub mac_at : List ℕ → Option Mac
mac_at text = do
  a ← mac_byte_at text
  b ← mac_byte_at a.1
  c ← mac_byte_at b.1
  d ← mac_byte_at c.1
  e ← mac_byte_at d.1
  f ← hex_byte_at e.1
  Some (record { bytes = a.0 ∷ b.0 ∷ c.0 ∷ d.0 ∷ e.0 ∷ f ∷ [] })
