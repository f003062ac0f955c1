-- IPv6 addresses and nets: what is read is what is spelled.
use Rattle.std.proofs.Common.{◌≡◌, ℕ, ◌^◌, ◌<◌, ◌≤◌, true, false, cond, List, [], ◌∷◌, ◌++◌, length, Some, None, option_map, option_and_then, refl, sym, ap, ◌∙◌, subst, arith, eqb, append_assoc, bytes_eq}
use Rattle.std.specs.Fmt.{decimal}
use Rattle.std.specs.List.{list_all}
use Rattle.std.specs.declared.net.ipv6_addr.Ipv6Addr.{Ipv6Addr}
use Rattle.std.specs.Net.Grammar.{IsColonHex, IsIpv6Text}
use Rattle.std.specs.Net.Reader.{read_ipv6}
use Rattle.std.proofs.lemmas.Bool.Decides.{nat_tests}
use Rattle.std.proofs.lemmas.List.{append-nil}
use Rattle.std.proofs.lemmas.Slice.Eq.{bytes_eq-Decides}
use Rattle.std.proofs.NetLemmas.Ipv6.{read_ipv6_complete, read_ipv6_sound, EndsGroups-nil}
use Rattle.std.proofs.NetLemmas.Texts.{IsColonHex-hex_groups_text}
use Rattle.net_types.specs.declared.address.Ip6.{Ip6}
use Rattle.net_types.specs.declared.address.Net6.{Net6}
use Rattle.net_types.specs.AddressText.{groups_of, ip6_text, FitsIp6, net6_text, FitsNet6}
use Rattle.net_types.specs.Cutting.{split_at_byte, field_at, guarded}
use Rattle.net_types.specs.Ip6Text.{printed_ip6_at, printed_net6_at, is_group_byte, SpellsIp6, SpellsNet6, ip6_from, groups_at, ip6_at, net6_at}
use Rattle.net_types.specs.Marks.{Lacks}
use Rattle.net_types.specs.Numbers.{number_at}
use Rattle.net_types.specs.Reads.{Reads}
use Rattle.net_types.proofs.GroupLaws.{spelled_eight, groups_joined, joined_range, joined_whole, groups_eight, group_at}
use Rattle.net_types.proofs.Ip6Marks.{is_ip6_byte, ip6_only}
use Rattle.net_types.proofs.MarkLaws.{only_weaker, lacks_from}
use Rattle.net_types.proofs.NumberLaws.{number_reads}
use Rattle.net_types.proofs.ReadsLaws.{guard_passed, some_same, passed, mapped, split_whole, split_sound}

pub groups_read : (text groups : List ℕ) → IsColonHex text groups → groups_at text ≡ Some groups
groups_read text groups is =
    ap (λ o. option_and_then (λ (p : List ℕ × List ℕ). cond (eqb (length p.1) 0) (Some p.0) None) o)
    (ap read_ipv6 (sym (append-nil text)) ∙ read_ipv6_complete text groups [] is EndsGroups-nil)

no_rest : (p : List ℕ × List ℕ) (groups : List ℕ) → cond (eqb (length p.1) 0) (Some p.0) None ≡ Some groups → (p.1 ≡ []) × (p.0 ≡ groups)
no_rest (found, []) groups e = (refl, some_same e)
no_rest (found, b ∷ rest) groups e = let never : ⊥ = grind (arith, nat_tests) in absurd never

pub groups_sound : (text groups : List ℕ) → groups_at text ≡ Some groups → IsColonHex text groups
groups_sound text groups e =
    let p = passed (read_ipv6 text) _ groups e in
    let whole = no_rest p.value groups p.gives in
    let front = read_ipv6_sound text p.value.0 p.value.1 p.was in
    let same : text ≡ front.0 = front.1 ∙ ap (λ r. front.0 ++ r) whole.0 ∙ append-nil front.0 in
    subst (λ gs. IsColonHex text gs) whole.1 (subst (λ t. IsColonHex t p.value.0) (sym same) front.2)

pub groups_none : (text : List ℕ) → ((address : Ipv6Addr) → ¬ (IsIpv6Text text address)) → groups_at text ≡ None
groups_none text never =
    elim (groups_at text) as (λ o. groups_at text ≡ o → o ≡ None) [
      | None ↦ λ e. refl
      | Some groups ↦ λ e. absurd (never (record { segments = groups }) (groups_sound text groups e))
    ] refl

-- ---- addresses

pub ip6_found : (text : List ℕ) (ip : Ip6) → ip6_at text ≡ Some ip → SpellsIp6 text ip
unfolding ip6_at
ip6_found text ip e =
    elim (list_all is_group_byte text) as
    (λ b. list_all is_group_byte text ≡ b → cond b (option_map ip6_from (groups_at text)) None ≡ Some ip → SpellsIp6 text ip) [
      | true ↦ λ bytes q.
          let m = mapped ip6_from (groups_at text) ip q in
          let is = groups_sound text m.value m.was in
          let eight = spelled_eight text m.value is in
          record {
            bytes = bytes;
            groups =
                subst (λ (i : Ip6). IsColonHex text (groups_of i.number)) m.gives (subst (λ gs. IsColonHex text gs) (sym (groups_joined m.value eight)) is);
            range = subst (λ (i : Ip6). i.number < 340282366920938463463374607431768211456) m.gives (joined_range m.value eight);
          }
      | false ↦ λ bytes q. let never : ⊥ = cc in absurd never
    ] refl e

pub ip6_whole : (text : List ℕ) (ip : Ip6) → SpellsIp6 text ip → ip6_at text ≡ Some ip
unfolding ip6_at
ip6_whole text ip spells =
    ap (λ b. cond b (option_map ip6_from (groups_at text)) None) spells.bytes
    ∙ ap (option_map ip6_from) (groups_read text (groups_of ip.number) spells.groups)
    ∙ ap (λ n. Some (record { number = n })) (joined_whole ip.number spells.range)

-- a text spells one address at most
pub ip6_one : (text : List ℕ) (a b : Ip6) → SpellsIp6 text a → SpellsIp6 text b → a ≡ b
ip6_one text a b one other = some_same (sym (ip6_whole text a one) ∙ ip6_whole text b other)

pub ip6_none : (text : List ℕ) → ip6_at text ≡ None → (ip : Ip6) → ¬ (SpellsIp6 text ip)
ip6_none text none ip spells = let both : None ≡ Some ip = sym none ∙ ip6_whole text ip spells in cc

lower_is_group : (b : ℕ) → is_ip6_byte b ≡ true → is_group_byte b ≡ true
lower_is_group b h = grind (arith, nat_tests)

-- the printed text is a spelling
pub ip6_printed : (ip : Ip6) → FitsIp6 ip → SpellsIp6 (ip6_text ip) ip
unfolding ip6_text
ip6_printed ip fits = record {
  bytes = only_weaker is_ip6_byte is_group_byte (ip6_text ip) lower_is_group (ip6_only ip);
  groups = IsColonHex-hex_groups_text (groups_of ip.number) refl (group_at (groups_of ip.number) (groups_eight ip.number));
  range = fits;
}

-- ---- nets

no_slash : (text : List ℕ) (ip : Ip6) → SpellsIp6 text ip → Lacks 47 text
no_slash text ip spells = lacks_from is_group_byte 47 text refl spells.bytes

pub net6_found : (text : List ℕ) (net : Net6) → net6_at text ≡ Some net → SpellsNet6 text net
unfolding net6_at
net6_found text net e =
    let field = passed (field_at 47 ip6_at text) _ net e in
    let len = passed (number_at 129 field.value.1) _ net field.gives in
    let parts = passed (split_at_byte 47 text) _ field.value field.was in
    let read = passed (ip6_at parts.value.0) _ field.value parts.gives in
    let cut = split_sound 47 text parts.value.0 parts.value.1 parts.was in
    let small : 129 ≤ 2 ^ 64 = omega arith in
    let number = (number_reads 129 small).sound field.value.1 len.value len.was in
    let same : record { ip = field.value.0; len = len.value } ≡ net = some_same len.gives in
    let pair : (read.value, parts.value.1) ≡ field.value = some_same read.gives in
    let spelled : text ≡ parts.value.0 ++ 47 ∷ [] ++ decimal len.value =
    cut.0 ∙ ap (λ (r : List ℕ). parts.value.0 ++ 47 ∷ r) (ap (λ p. p.1) pair ∙ number.0) ∙ sym (append_assoc parts.value.0 (47 ∷ []) (decimal len.value)) in
    let most : len.value ≤ 128 = let below = number.1 in omega arith in
    let spells : SpellsIp6 parts.value.0 field.value.0 = ip6_found parts.value.0 field.value.0 (read.was ∙ ap (λ p. Some p.0) pair) in
    subst (SpellsNet6 text) same (record { address = parts.value.0; spelled = spelled; spells = spells; prefix = most })

pub net6_whole : (text : List ℕ) (net : Net6) → SpellsNet6 text net → net6_at text ≡ Some net
unfolding net6_at
net6_whole text net spells =
    let small : 129 ≤ 2 ^ 64 = omega arith in
    let below : net.len < 129 = let most = spells.prefix in omega arith in
    let cut : split_at_byte 47 text ≡ Some (spells.address, decimal net.len) =
    ap (split_at_byte 47) (spells.spelled ∙ append_assoc spells.address (47 ∷ []) (decimal net.len))
    ∙ split_whole 47 spells.address (decimal net.len) (no_slash spells.address net.ip spells.spells) in
    rw (cut, ip6_whole spells.address net.ip spells.spells, (number_reads 129 small).whole net.len below) refl

pub net6_one : (text : List ℕ) (a b : Net6) → SpellsNet6 text a → SpellsNet6 text b → a ≡ b
net6_one text a b one other = some_same (sym (net6_whole text a one) ∙ net6_whole text b other)

pub net6_none : (text : List ℕ) → net6_at text ≡ None → (net : Net6) → ¬ (SpellsNet6 text net)
net6_none text none net spells = let both : None ≡ Some net = sym none ∙ net6_whole text net spells in cc

pub net6_printed : (net : Net6) → FitsNet6 net → SpellsNet6 (net6_text net) net
unfolding net6_text
net6_printed net fits = record { address = ip6_text net.ip; spelled = refl; spells = ip6_printed net.ip fits.address; prefix = fits.prefix }

-- ---- the printed spelling alone

same_bytes : (text : List ℕ) → bytes_eq text text ≡ true
same_bytes text = (bytes_eq-Decides text text).1 refl

pub printed_ip6_reads : Reads ip6_text FitsIp6 printed_ip6_at
unfolding printed_ip6_at
printed_ip6_reads = record {
  sound = λ text ip e.
      let g = guard_passed (λ i. bytes_eq text (ip6_text i)) (ip6_at text) ip e in
      ((bytes_eq-Decides text (ip6_text ip)).0 g.1, (ip6_found text ip g.0).range);
  whole = λ ip fits.
      ap (guarded (λ i. bytes_eq (ip6_text ip) (ip6_text i))) (ip6_whole (ip6_text ip) ip (ip6_printed ip fits))
      ∙ ap (λ b. cond b (Some ip) None) (same_bytes (ip6_text ip));
}

pub printed_net6_reads : Reads net6_text FitsNet6 printed_net6_at
unfolding printed_net6_at
printed_net6_reads = record {
  sound = λ text net e.
      let g = guard_passed (λ i. bytes_eq text (net6_text i)) (net6_at text) net e in
      let spells = net6_found text net g.0 in
      ((bytes_eq-Decides text (net6_text net)).0 g.1, record { address = spells.spells.range; prefix = spells.prefix });
  whole = λ net fits.
      ap (guarded (λ i. bytes_eq (net6_text net) (net6_text i))) (net6_whole (net6_text net) net (net6_printed net fits))
      ∙ ap (λ b. cond b (Some net) None) (same_bytes (net6_text net));
}
