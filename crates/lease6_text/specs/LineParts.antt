-- What the lines of a DHCPv6 lease's text say, each by itself.
use Rattle.std.specs.Prelude.{ℕ, ◌%◌, ◌^◌, ◌-◌, Bool, true, false, not, ◌&&◌, nat_le, nat_lt, ◌==◌, List, length, codes, bytes_eq, Option, Some, None, option_map, if◌then◌else◌}
use Rattle.std.specs.List.{list_any}
use Rattle.net_types.specs.declared.address.Net6.{Net6}
use Rattle.net_types.specs.Cutting.{after_word, by_word, guarded, pair_at, strip_word}
use Rattle.net_types.specs.HexText.{hex_at}
use Rattle.net_types.specs.Ip6Text.{printed_ip6_at, printed_net6_at}
use Rattle.net_types.specs.Numbers.{number_at}
use Rattle.v6_options.specs.declared.ia.IaKind.{IaKind}
use Rattle.v6_options.specs.declared.ia.IaKind.TheVariants.{Na, Pd}
use Rattle.lease_text.specs.Leases.{ValueContent}
use Rattle.lease6_text.specs.declared.lease.Item6.{Item6}
use Rattle.lease6_text.specs.declared.lease.TheConstants.{ADDRESS_LEN, IA_LIMIT, ITEM_LIMIT, LONGEST_DELEGATED, MOMENT6_LIMIT, SHORTEST_DELEGATED}
use Rattle.lease6_text.specs.Leases.{IaLeaseContent}
use Rattle.lease6_text.specs.LeaseLines.{kind_word}
use Rattle.lease6_text.specs.ValueForms.{is_kept6, is_well_formed6}

-- ---- the server and moments

abbrev pub is_duid : List ℕ → Bool
is_duid bytes = nat_le 2 (length bytes) && nat_le (length bytes) 130

unfoldable pub server_at : List ℕ → Option (List ℕ)
server_at text = guarded is_duid (hex_at text)

unfoldable pub moment_at : List ℕ → Option (Option ℕ)
moment_at text =
    if bytes_eq text (codes "never") then Some None else option_map (λ at. Some at) (number_at MOMENT6_LIMIT text)

-- ---- IAs

-- the kind and the IAID after it
unfoldable pub ia_at : List ℕ → Option (IaKind × ℕ)
ia_at text =
    by_word (strip_word (kind_word Na) text) (λ rest. option_map (λ iaid. (Na, iaid)) (number_at (2 ^ 32) rest))
    (option_map (λ iaid. (Pd, iaid)) (after_word (kind_word Pd) (number_at (2 ^ 32)) text))

abbrev pub is_same_kind : IaKind → IaKind → Bool
is_same_kind Na Na = true
is_same_kind Pd Pd = true
is_same_kind Na Pd = false
is_same_kind Pd Na = false

abbrev pub is_ia : IaKind × ℕ → IaLeaseContent → Bool
is_ia key ia = is_same_kind ia.kind key.0 && (ia.iaid == key.1)

-- whether an IA of this kind and IAID is among these
abbrev pub has_ia : List IaLeaseContent → IaKind × ℕ → Bool
has_ia ias key = list_any (is_ia key) ias

-- whether an IA may come after these
abbrev pub may_begin : List IaLeaseContent → IaKind × ℕ → Bool
may_begin ias key = nat_lt (length ias) IA_LIMIT && not (has_ia ias key)

-- ---- items

-- whether a prefix may be one that is delegated
abbrev pub is_delegated : Net6 → Bool
is_delegated net =
    nat_le SHORTEST_DELEGATED net.len && nat_le net.len LONGEST_DELEGATED
    && ((net.ip.number % 2 ^ (128 - net.len)) == 0)

unfoldable pub item_net_at : IaKind → List ℕ → Option Net6
item_net_at Na text = option_map (λ ip. record { ip = ip; len = ADDRESS_LEN }) (printed_ip6_at text)
item_net_at Pd text = guarded is_delegated (printed_net6_at text)

abbrev pub item_from : Net6 × (Option ℕ × Option ℕ) → Item6
item_from said = record { net = said.0; preferred = said.1.0; valid = said.1.1 }

unfoldable pub item_at : IaKind → List ℕ → Option Item6
item_at kind text = option_map item_from (pair_at 32 (item_net_at kind) (pair_at 32 moment_at moment_at) text)

abbrev pub is_of_net : Net6 → Item6 → Bool
is_of_net net item = (item.net.ip.number == net.ip.number) && (item.net.len == net.len)

-- whether an item with this net is among these
abbrev pub has_net : List Item6 → Net6 → Bool
has_net items net = list_any (is_of_net net) items

-- whether an item may come after these of its IA
abbrev pub may_join : List Item6 → Item6 → Bool
may_join items item = nat_lt (length items) ITEM_LIMIT && not (has_net items item.net)

-- ---- values

-- a value that is kept and well formed, with a code above the one before it
abbrev pub may_follow6 : (before : ℕ) → ValueContent → Bool
may_follow6 before value = nat_lt before value.code && is_kept6 value.code && is_well_formed6 value.code value.bytes

unfoldable pub value6_at : (before : ℕ) → List ℕ → Option ValueContent
value6_at before text =
    guarded (may_follow6 before)
    (option_map (λ p. record { code = p.0; bytes = p.1 }) (pair_at 32 (number_at 65536) hex_at text))
