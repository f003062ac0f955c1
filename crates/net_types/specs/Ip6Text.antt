-- The texts of IPv6 addresses and nets that are read (RFC 4291, section 2.2): eight numbers in hexadecimal, each of at
-- most four digits, parted by colons, or fewer where `::` stands for one zero or more. A dotted tail is no such text.
use Rattle.std.specs.Prelude.{◌≡◌, ℕ, ◌+◌, ◌*◌, ◌≤◌, Bool, ◌||◌, List, [], ◌∷◌, ◌++◌, Option, Some, None, option_map, bytes_eq, codes, decimal, ◌==◌, if◌then◌else◌}
use Rattle.std.specs.Char.{is_ascii_hexdigit}
use Rattle.std.specs.List.{list_all}
use Rattle.std.specs.Net.Grammar.{IsColonHex}
use Rattle.std.specs.Net.Reader.{read_ipv6, whole_value}
use Rattle.net_types.specs.declared.address.Ip6.{Ip6}
use Rattle.net_types.specs.declared.address.Net6.{Net6}
use Rattle.net_types.specs.AddressText.{groups_of, ip6_text, net6_text, FitsIp6}
use Rattle.net_types.specs.Cutting.{◌>>=◌, field_at, guarded}
use Rattle.net_types.specs.Marks.{Only}
use Rattle.net_types.specs.Numbers.{number_at}

abbrev pub is_group_byte : ℕ → Bool
is_group_byte b = is_ascii_hexdigit b || (b == 58)

-- any spelling of an address
pub record SpellsIp6 (text : List ℕ) (ip : Ip6) : Type 0 where
  pub bytes : Only is_group_byte text
  pub groups : IsColonHex text (groups_of ip.number)
  pub range : FitsIp6 ip

-- any spelling of an address, a slash and the prefix length
pub record SpellsNet6 (text : List ℕ) (net : Net6) : Type 0 where
  pub address : List ℕ
  pub spelled : text ≡ address ++ codes "/" ++ decimal net.len
  pub spells : SpellsIp6 address net.ip
  pub prefix : net.len ≤ 128

-- how they are read
abbrev pub joined_groups : ℕ → List ℕ → ℕ
joined_groups high [] = high
joined_groups high (group ∷ groups) = joined_groups (high * 65536 + group) groups

abbrev pub ip6_from : List ℕ → Ip6
ip6_from groups = record { number = joined_groups 0 groups }

abbrev pub groups_at : List ℕ → Option (List ℕ)
groups_at text = whole_value (read_ipv6 text)

unfoldable pub ip6_at : List ℕ → Option Ip6
ip6_at text = if list_all is_group_byte text then option_map ip6_from (groups_at text) else None

unfoldable pub net6_at : List ℕ → Option Net6
net6_at text = do
  ip ← field_at 47 ip6_at text
  len ← number_at 129 ip.1
  Some (record { ip = ip.0; len = len })

-- the printed spelling alone
unfoldable pub printed_ip6_at : List ℕ → Option Ip6
printed_ip6_at text = guarded (λ ip. bytes_eq text (ip6_text ip)) (ip6_at text)

unfoldable pub printed_net6_at : List ℕ → Option Net6
printed_net6_at text = guarded (λ net. bytes_eq text (net6_text net)) (net6_at text)
