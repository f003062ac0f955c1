-- The kinds of fields.
use Rattle.std.specs.Prelude.{ℕ, ◌<◌, ◌^◌, nat_lt, List, [], decimal}
use Rattle.net_types.specs.declared.address.Ip4.{Ip4}
use Rattle.net_types.specs.declared.address.Ip6.{Ip6}
use Rattle.net_types.specs.declared.address.Mac.{Mac}
use Rattle.net_types.specs.declared.address.Net4.{Net4}
use Rattle.net_types.specs.declared.address.Net6.{Net6}
use Rattle.net_types.specs.declared.interface.Name.{Name}
use Rattle.net_types.specs.AddressText.{ip4_at, ip4_text, ip6_text, mac_at, mac_text, net4_at, net4_text, net6_text, FitsIp4, FitsIp6, FitsMac, FitsNet4, FitsNet6}
use Rattle.net_types.specs.Cutting.{end_at, guarded}
use Rattle.net_types.specs.HexText.{hex_at, hex_text}
use Rattle.net_types.specs.Ip6Text.{printed_ip6_at, printed_net6_at}
use Rattle.net_types.specs.Marks.{AreBytes}
use Rattle.net_types.specs.NameText.{name_at, name_text, FitsName}
use Rattle.net_types.specs.Numbers.{number_at}
use Rattle.field_laws.specs.Fields.{Field}

-- a number below a limit, of 64 bits at most
pub record FitsNumber (limit n : ℕ) : Type 0 where
  pub small : n < 2 ^ 64
  pub below : n < limit

abbrev pub number_field : (limit : ℕ) → Field ℕ
number_field limit = record {
  text = decimal;
  Fits = FitsNumber limit;
  at = λ text. guarded (λ n. nat_lt n limit) (number_at (2 ^ 64) text);
}

abbrev pub name_field : Field Name
name_field = record { text = name_text; Fits = FitsName; at = name_at }

abbrev pub mac_field : Field Mac
mac_field = record { text = mac_text; Fits = FitsMac; at = mac_at }

abbrev pub ip4_field : Field Ip4
ip4_field = record { text = ip4_text; Fits = FitsIp4; at = ip4_at }

abbrev pub ip6_field : Field Ip6
ip6_field = record { text = ip6_text; Fits = FitsIp6; at = printed_ip6_at }

abbrev pub net4_field : Field Net4
net4_field = record { text = net4_text; Fits = FitsNet4; at = net4_at }

abbrev pub net6_field : Field Net6
net6_field = record { text = net6_text; Fits = FitsNet6; at = printed_net6_at }

-- bytes as lower-case pairs, or `-` for none
abbrev pub hex_field : Field (List ℕ)
hex_field = record { text = hex_text; Fits = AreBytes; at = hex_at }

-- a line of a word alone
abbrev pub no_field : Field (Unit {0})
no_field = record { text = λ _. []; Fits = λ _. Unit {0}; at = end_at }
