-- The law of each kind of field.
use Rattle.std.proofs.Common.{◌≡◌, ℕ, ◌^◌, ◌<◌, refl, arith, false}
use Rattle.std.specs.Prelude.{decimal, nat_lt}
use Rattle.std.proofs.lemmas.Bool.{lt-ltb, ltb-true}
use Rattle.std.specs.Char.{is_ascii_digit}
use Rattle.net_types.specs.declared.address.Net6.{Net6}
use Rattle.net_types.specs.declared.address.Net.TheVariants.{V6}
use Rattle.net_types.specs.AddressText.{FitsNet6, net_text, net6_text}
use Rattle.net_types.specs.Marks.{Lacks}
use Rattle.net_types.proofs.AddressLaws.{ip4_reads, mac_reads, net4_reads}
use Rattle.net_types.proofs.HexLaws.{hex_reads}
use Rattle.net_types.proofs.Ip6Laws.{printed_ip6_reads, printed_net6_reads}
use Rattle.net_types.proofs.Ip6Marks.{ip6_lacks, is_net_byte, net_lacks}
use Rattle.net_types.proofs.MarkLaws.{decimal_lacks, hex_lacks, ip4_lacks, mac_lacks, net4_lacks}
use Rattle.net_types.proofs.NameLaws.{name_lacks, name_reads}
use Rattle.net_types.proofs.NumberLaws.{number_reads}
use Rattle.net_types.proofs.ReadsLaws.{end_reads, guard_reads, same_range}
use Rattle.field_laws.specs.Fields.{IsField, LacksBlank}
use Rattle.field_laws.specs.Kinds.{FitsNumber, hex_field, ip4_field, ip6_field, mac_field, name_field, net4_field, net6_field, no_field, number_field}

number_lacks : (limit n byte : ℕ) → FitsNumber limit n → is_ascii_digit byte ≡ false → Lacks byte (decimal n)
number_lacks limit n byte fits other = decimal_lacks n byte fits.small other

pub number_is : (limit : ℕ) → IsField (number_field limit)
number_is limit = record {
  reads =
      same_range (FitsNumber limit) (λ n fits. (fits.small, lt-ltb n limit fits.below)) (λ n fits. record { small = fits.0; below = ltb-true n limit fits.1 })
      (guard_reads (λ n. nat_lt n limit) (number_reads (2 ^ 64) (omega arith)));
  no_feed = λ n fits. number_lacks limit n 10 fits refl;
}

pub number_lacks_blank : (limit : ℕ) → LacksBlank (number_field limit)
number_lacks_blank limit n fits = number_lacks limit n 32 fits refl

pub name_is : IsField name_field
name_is = record { reads = name_reads; no_feed = λ name fits. name_lacks name 10 fits refl }

pub name_lacks_blank : LacksBlank name_field
name_lacks_blank name fits = name_lacks name 32 fits refl

pub mac_is : IsField mac_field
mac_is = record { reads = mac_reads; no_feed = λ mac fits. mac_lacks mac 10 fits refl }

pub mac_lacks_blank : LacksBlank mac_field
mac_lacks_blank mac fits = mac_lacks mac 32 fits refl

pub ip4_is : IsField ip4_field
ip4_is = record { reads = ip4_reads; no_feed = λ ip fits. ip4_lacks ip 10 fits refl }

pub ip4_lacks_blank : LacksBlank ip4_field
ip4_lacks_blank ip fits = ip4_lacks ip 32 fits refl

pub ip6_is : IsField ip6_field
ip6_is = record { reads = printed_ip6_reads; no_feed = λ ip fits. ip6_lacks ip 10 refl }

pub ip6_lacks_blank : LacksBlank ip6_field
ip6_lacks_blank ip fits = ip6_lacks ip 32 refl

pub net4_is : IsField net4_field
net4_is = record { reads = net4_reads; no_feed = λ net fits. net4_lacks net 10 fits refl }

pub net4_lacks_blank : LacksBlank net4_field
net4_lacks_blank net fits = net4_lacks net 32 fits refl

net6_lacks : (net : Net6) (byte : ℕ) → FitsNet6 net → is_net_byte byte ≡ false → Lacks byte (net6_text net)
unfolding net_text
net6_lacks net byte fits other = net_lacks (V6 net) byte fits other

pub net6_is : IsField net6_field
net6_is = record { reads = printed_net6_reads; no_feed = λ net fits. net6_lacks net 10 fits refl }

pub net6_lacks_blank : LacksBlank net6_field
net6_lacks_blank net fits = net6_lacks net 32 fits refl

pub hex_is : IsField hex_field
hex_is = record { reads = hex_reads; no_feed = λ bytes fits. hex_lacks bytes 10 fits refl }

pub hex_lacks_blank : LacksBlank hex_field
hex_lacks_blank bytes fits = hex_lacks bytes 32 fits refl

pub no_field_is : IsField no_field
no_field_is = record { reads = end_reads; no_feed = λ none fits. refl }
