-- What the parts of a line say: what is read is spelled so, and what is spelled so is read.
use Rattle.std.proofs.Common.{◌≡◌, ℕ, ◌%◌, ◌^◌, ◌<◌, Bool, true, false, cond, List, ◌∷◌, ◌++◌, length, Option, Some, None, option_map, refl, sym, ap, ◌∙◌, subst, arith, leb, codes, bytes_eq}
use Rattle.std.specs.Prelude.{decimal}
use Rattle.std.specs.Char.{is_ascii_digit}
use Rattle.std.specs.List.{list_all}
use Rattle.std.proofs.lemmas.Bool.{and_parts, and_from, both_ways, leb-true, le-leb, ltb-true, lt-ltb, eqb-true, eq-eqb}
use Rattle.std.proofs.lemmas.Bool.Decides.{nat_tests}
use Rattle.std.proofs.lemmas.Slice.Eq.{bytes_eq-Decides}
use Rattle.net_types.specs.declared.address.Ip6.{Ip6}
use Rattle.net_types.specs.declared.address.Net6.{Net6}
use Rattle.net_types.specs.declared.address.Net.TheVariants.{V6}
use Rattle.lease_text.specs.FieldLaws.Fields.{IsField, LacksBlank}
use Rattle.net_types.specs.AddressText.{FitsIp6, FitsNet6, net6_text, net_text}
use Rattle.net_types.specs.Cutting.{after_word, by_word, strip_word}
use Rattle.net_types.specs.HexText.{hex_text}
use Rattle.net_types.specs.Marks.{AreBytes, Lacks, Only}
use Rattle.net_types.specs.Numbers.{number_at}
use Rattle.net_types.specs.Reads.{Reads}
use Rattle.net_types.proofs.ChoiceLaws.{Chosen, choose_reads, part_chosen, part_sound, words_apart}
use Rattle.net_types.proofs.HexLaws.{hex_reads}
use Rattle.net_types.proofs.Ip6Laws.{printed_ip6_reads, printed_net6_reads}
use Rattle.net_types.proofs.Ip6Marks.{ip6_lacks, is_net_byte, net_lacks}
use Rattle.net_types.proofs.MarkLaws.{decimal_lacks, decimal_only, hex_lacks, lacks-append}
use Rattle.net_types.proofs.NumberLaws.{number_reads}
use Rattle.net_types.proofs.ReadsLaws.{end_reads, guard_reads, map_reads, mapped, pair_reads, same_range, some_same, strip_sound, strip_whole, word_reads}
use Rattle.v6_options.specs.declared.ia.IaKind.{IaKind}
use Rattle.v6_options.specs.declared.ia.IaKind.TheVariants.{Na, Pd}
use Rattle.lease_text.specs.LeaseLines.{value_text}
use Rattle.lease_text.specs.Leases.{ValueContent}
use Rattle.lease6_text.specs.declared.lease.Item6.{Item6}
use Rattle.lease6_text.specs.declared.lease.TheConstants.{ADDRESS_LEN, MOMENT6_LIMIT}
use Rattle.lease6_text.specs.declared.reading.TextVersion.{TextVersion}
use Rattle.lease6_text.specs.declared.reading.TextVersion.TheVariants.{Plain, WithOrigin}
use Rattle.lease6_text.specs.Bounds.{FitsItem, FitsLen, FitsMoment, FitsValue6, IsDuid, IsNetwork}
use Rattle.lease6_text.specs.LeaseLines.{item_net_text, item_text, kind_word, moment_text, origin_line, plain_line}
use Rattle.lease6_text.specs.LeaseReading.{version_at, version_line, versions}
use Rattle.lease6_text.specs.LineFields.{moment_field, server_field}
use Rattle.lease6_text.specs.LineParts.{is_duid, server_at, moment_at, ia_at, is_delegated, item_net_at, item_from, item_at, may_follow6, value6_at}
use Rattle.lease6_text.specs.ValueForms.{is_kept6}

-- ---- the version

version_chosen : (version : TextVersion) → Chosen versions version_line version
version_chosen Plain = part_chosen versions version_line 0 plain_line (λ _. Plain) tt end_reads refl refl tt
version_chosen WithOrigin = part_chosen versions version_line 1 origin_line (λ _. WithOrigin) tt end_reads refl refl tt

pub version_reads : Reads version_line (λ version. Unit {0}) version_at
version_reads =
    choose_reads versions refl (
      part_sound version_line (λ version. Unit {0}) plain_line (λ _. Plain) end_reads (λ _. refl) (λ _ _. tt),
      (part_sound version_line (λ version. Unit {0}) origin_line (λ _. WithOrigin) end_reads (λ _. refl) (λ _ _. tt), tt),
    )
    (λ version any. version_chosen version)

-- ---- the server

pub server_reads : Reads hex_text IsDuid server_at
unfolding server_at
server_reads =
    same_range IsDuid
    (λ bytes fits. (fits.octets, and_from (leb 2 (length bytes)) (leb (length bytes) 130) (le-leb _ _ fits.least) (le-leb _ _ fits.most)))
    (λ bytes fits.
    let parts = and_parts (leb 2 (length bytes)) (leb (length bytes) 130) fits.1 in
    record { least = leb-true _ _ parts.0; most = leb-true _ _ parts.1; octets = fits.0 })
    (guard_reads is_duid hex_reads)

pub server_is : IsField server_field
server_is = record { reads = server_reads; no_feed = λ bytes fits. hex_lacks bytes 10 fits.octets refl }

-- ---- moments

abbrev never : List ℕ
never = codes "never"

no_digits : (at : ℕ) → at < 2 ^ 64 → bytes_eq (decimal at) never ≡ false
no_digits at small = of_test (bytes_eq (decimal at) never) refl
  where
    of_test : (b : Bool) → bytes_eq (decimal at) never ≡ b → bytes_eq (decimal at) never ≡ false
    of_test false e = e
    of_test true e =
        absurd
        (both_ways (list_all is_ascii_digit never) refl
        (subst (λ t. Only is_ascii_digit t) ((bytes_eq-Decides (decimal at) never).0 e) (decimal_only at small)))

abbrev number_or_none : List ℕ → Option (Option ℕ)
number_or_none text = option_map (λ at. Some at) (number_at MOMENT6_LIMIT text)

moment_sound : (text : List ℕ) (moment : Option ℕ) → number_or_none text ≡ Some moment → (text ≡ moment_text moment) × FitsMoment moment
moment_sound text moment e =
    let m = mapped (λ at. Some at) (number_at MOMENT6_LIMIT text) moment e in
    let s = (number_reads MOMENT6_LIMIT (omega arith)).sound text m.value m.was in
    subst (λ o. (text ≡ moment_text o) × FitsMoment o) m.gives s

moment_whole : (moment : Option ℕ) → FitsMoment moment → moment_at (moment_text moment) ≡ Some moment
unfolding moment_at
moment_whole None fits = ap (λ b. cond b (Some None) (number_or_none never)) ((bytes_eq-Decides never never).1 refl)
moment_whole (Some at) fits =
    let below : at < MOMENT6_LIMIT = fits in
    ap (λ b. cond b (Some None) (number_or_none (decimal at))) (no_digits at (omega (arith, below)))
    ∙ ap (option_map (λ n. Some n)) ((number_reads MOMENT6_LIMIT (omega arith)).whole at fits)

pub moment_reads : Reads moment_text FitsMoment moment_at
unfolding moment_at
moment_reads = record {
  sound = λ text moment e.
      elim (bytes_eq text never) as
      (λ b. bytes_eq text never ≡ b → cond b (Some None) (number_or_none text) ≡ Some moment → (text ≡ moment_text moment) × FitsMoment moment) [
        | true ↦ λ is q. subst (λ o. (text ≡ moment_text o) × FitsMoment o) (some_same q) ((bytes_eq-Decides text never).0 is, tt)
        | false ↦ λ is q. moment_sound text moment q
      ] refl e;
  whole = moment_whole;
}

pub moment_lacks : (byte : ℕ) (moment : Option ℕ) → FitsMoment moment → is_ascii_digit byte ≡ false → Lacks byte never → Lacks byte (moment_text moment)
moment_lacks byte None fits other free = free
moment_lacks byte (Some at) fits other free = let below : at < MOMENT6_LIMIT = fits in decimal_lacks at byte (omega (arith, below)) other

pub moment_is : IsField moment_field
moment_is = record { reads = moment_reads; no_feed = λ moment fits. moment_lacks 10 moment fits refl refl }

pub moment_lacks_blank : LacksBlank moment_field
moment_lacks_blank moment fits = moment_lacks 32 moment fits refl refl

-- ---- IAs

abbrev pub key_text : IaKind × ℕ → List ℕ
key_text key = kind_word key.0 ++ decimal key.1

abbrev pub FitsKey : IaKind × ℕ → Type 0
FitsKey key = key.1 < 2 ^ 32

abbrev of_kind : IaKind → ℕ → IaKind × ℕ
of_kind kind iaid = (kind, iaid)

ia_whole : (kind : IaKind) (iaid : ℕ) → iaid < 2 ^ 32 → ia_at (key_text (of_kind kind iaid)) ≡ Some (of_kind kind iaid)
unfolding ia_at
ia_whole Na iaid fits =
    ap
    (λ o. by_word o (λ rest. option_map (of_kind Na) (number_at (2 ^ 32) rest))
    (option_map (of_kind Pd) (after_word (kind_word Pd) (number_at (2 ^ 32)) (key_text (of_kind Na iaid)))))
    (strip_whole (kind_word Na) (decimal iaid))
    ∙ ap (option_map (of_kind Na)) ((number_reads (2 ^ 32) (omega arith)).whole iaid fits)
ia_whole Pd iaid fits =
    ap
    (λ o. by_word o (λ rest. option_map (of_kind Na) (number_at (2 ^ 32) rest))
    (option_map (of_kind Pd) (after_word (kind_word Pd) (number_at (2 ^ 32)) (key_text (of_kind Pd iaid)))))
    (words_apart (kind_word Na) (kind_word Pd) (decimal iaid) refl)
    ∙ ap (option_map (of_kind Pd)) ((word_reads (kind_word Pd) (number_reads (2 ^ 32) (omega arith))).whole iaid fits)

ia_sound : (text : List ℕ) (key : IaKind × ℕ) → ia_at text ≡ Some key → (text ≡ key_text key) × FitsKey key
unfolding ia_at
ia_sound text key e =
    elim (strip_word (kind_word Na) text) as
    (λ o. strip_word (kind_word Na) text ≡ o
    → by_word o (λ rest. option_map (of_kind Na) (number_at (2 ^ 32) rest))
    (option_map (of_kind Pd) (after_word (kind_word Pd) (number_at (2 ^ 32)) text))
    ≡ Some key
    → (text ≡ key_text key) × FitsKey key) [
      | Some rest ↦ λ is q.
          let m = mapped (of_kind Na) (number_at (2 ^ 32) rest) key q in
          let s = (number_reads (2 ^ 32) (omega arith)).sound rest m.value m.was in
          subst (λ k. (text ≡ key_text k) × FitsKey k) m.gives (strip_sound (kind_word Na) text rest is ∙ ap (λ r. kind_word Na ++ r) s.0, s.1)
      | None ↦ λ is q.
          let m = mapped (of_kind Pd) (after_word (kind_word Pd) (number_at (2 ^ 32)) text) key q in
          let s = (word_reads (kind_word Pd) (number_reads (2 ^ 32) (omega arith))).sound text m.value m.was in
          subst (λ k. (text ≡ key_text k) × FitsKey k) m.gives s
    ] refl e

pub ia_reads : Reads key_text FitsKey ia_at
ia_reads = record { sound = ia_sound; whole = λ key fits. ia_whole key.0 key.1 fits }

-- ---- items

-- the net of an item, within the type that holds it
pub record IsItemNet (kind : IaKind) (net : Net6) : Type 0 where
  pub len : FitsLen kind net.len
  pub network : IsNetwork net
  pub typed : FitsIp6 net.ip

delegated_parts : (net : Net6) → FitsNet6 net → is_delegated net ≡ true → IsItemNet Pd net
delegated_parts net fits e =
    let all = and_parts _ _ e in
    let lens = and_parts _ _ all.0 in
    record { len = (leb-true _ _ lens.0, leb-true _ _ lens.1); network = eqb-true _ _ all.1; typed = fits.address }

delegated_from : (net : Net6) → IsItemNet Pd net → is_delegated net ≡ true
delegated_from net is = and_from _ _ (and_from _ _ (le-leb _ _ is.len.0) (le-leb _ _ is.len.1)) (eq-eqb _ _ is.network)

abbrev net_with : Ip6 → ℕ → Net6
net_with ip len = record { ip = ip; len = len }

no_rest : (n : ℕ) → n % 1 ≡ 0
no_rest n = omega arith

pub net_reads : (kind : IaKind) → Reads (item_net_text kind) (IsItemNet kind) (item_net_at kind)
unfolding item_net_at
net_reads Na =
    map_reads {FitsX = IsItemNet Na} (λ ip. record { ip = ip; len = ADDRESS_LEN }) (λ net. net.ip) printed_ip6_reads
    (λ ip fits. refl) (λ net is. ap (net_with net.ip) (sym is.len))
    (λ ip fits. record { len = refl; network = no_rest ip.number; typed = fits }) (λ net is. is.typed)
net_reads Pd =
    same_range (IsItemNet Pd)
    (λ net is. (record { address = is.typed; prefix = (let most = is.len.1 in omega (arith, most)) }, delegated_from net is))
    (λ net fits. delegated_parts net fits.0 fits.1)
    (guard_reads is_delegated printed_net6_reads)

net6_lacks : (net : Net6) (byte : ℕ) → FitsNet6 net → is_net_byte byte ≡ false → Lacks byte (net6_text net)
unfolding net_text
net6_lacks net byte fits other = net_lacks (V6 net) byte fits other

-- a blank, or a line feed
pub net_blank : (kind : IaKind) (net : Net6) → IsItemNet kind net → Lacks 32 (item_net_text kind net)
net_blank Na net is = ip6_lacks net.ip 32 refl
net_blank Pd net is = net6_lacks net 32 (record { address = is.typed; prefix = (let most = is.len.1 in omega (arith, most)) }) refl

pub net_feed : (kind : IaKind) (net : Net6) → IsItemNet kind net → Lacks 10 (item_net_text kind net)
net_feed Na net is = ip6_lacks net.ip 10 refl
net_feed Pd net is = net6_lacks net 10 (record { address = is.typed; prefix = (let most = is.len.1 in omega (arith, most)) }) refl

-- an item within the bounds and within the types that hold it
pub record IsItem (kind : IaKind) (item : Item6) : Type 0 where
  pub good : FitsItem kind item
  pub typed : FitsIp6 item.net.ip

pub item_reads : (kind : IaKind) → Reads (item_text kind) (IsItem kind) (item_at kind)
unfolding item_at
item_reads kind =
    map_reads {FitsX = IsItem kind} item_from (λ item. (item.net, (item.preferred, item.valid)))
    (pair_reads 32 (net_reads kind) (pair_reads 32 moment_reads moment_reads moment_lacks_blank) (net_blank kind))
    (λ p fits. refl) (λ item is. refl)
    (λ p fits. record { good = record { len = fits.0.len; network = fits.0.network; preferred = fits.1.0; valid = fits.1.1 }; typed = fits.0.typed })
    (λ item is. (record { len = is.good.len; network = is.good.network; typed = is.typed }, (is.good.preferred, is.good.valid)))

pub item_feed : (kind : IaKind) (item : Item6) → IsItem kind item → Lacks 10 (item_text kind item)
item_feed kind item is =
    lacks-append 10 (item_net_text kind item.net) (32 ∷ (moment_text item.preferred ++ 32 ∷ moment_text item.valid))
    (net_feed kind item.net (record { len = is.good.len; network = is.good.network; typed = is.typed }))
    (lacks-append 10 (moment_text item.preferred) (32 ∷ moment_text item.valid) (moment_lacks 10 item.preferred is.good.preferred refl refl)
    (moment_lacks 10 item.valid is.good.valid refl refl))

-- ---- values

-- a value that may come after one with the code `before`
pub record IsNext (before : ℕ) (value : ValueContent) : Type 0 where
  pub above : before < value.code
  pub code : value.code < 65536
  pub good : FitsValue6 value
  pub octets : AreBytes value.bytes

abbrev IsPair : ValueContent → Type 0
IsPair value = (value.code < 65536) × AreBytes value.bytes

next_parts : (before : ℕ) (value : ValueContent) → IsPair value → may_follow6 before value ≡ true → IsNext before value
next_parts before value pair e =
    let formed = and_parts _ _ e in
    let kept = and_parts _ _ formed.0 in
    record { above = ltb-true _ _ kept.0; code = pair.0; good = record { kept = kept.1; formed = formed.1 }; octets = pair.1 }

next_from : (before : ℕ) (value : ValueContent) → IsNext before value → may_follow6 before value ≡ true
next_from before value is = and_from _ _ (and_from _ _ (lt-ltb _ _ is.above) is.good.kept) is.good.formed

pub value_reads : (before : ℕ) → Reads value_text (IsNext before) (value6_at before)
unfolding value6_at
value_reads before =
    same_range (IsNext before) (λ value is. ((is.code, is.octets), next_from before value is)) (λ value fits. next_parts before value fits.0 fits.1)
    (guard_reads (may_follow6 before)
    (map_reads {FitsX = IsPair} (λ p. record { code = p.0; bytes = p.1 }) (λ value. (value.code, value.bytes))
    (pair_reads 32 (number_reads 65536 (omega arith)) hex_reads (λ code small. decimal_lacks code 32 (omega (arith, small)) refl))
    (λ p fits. refl) (λ value fits. refl) (λ p fits. fits) (λ value fits. fits)))

-- a code that is kept is one of two bytes
pub kept_small : (code : ℕ) → is_kept6 code ≡ true → code < 65536
kept_small code kept = grind (arith, nat_tests)
