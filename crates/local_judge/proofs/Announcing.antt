-- The test of announcements tells whether another address was announced.
use Rattle.std.proofs.Common.{◌≡◌, ℕ, ◌<◌, ◌^◌, Bool, true, false, not, ◌&&◌, List, refl, sym, subst, ap, ◌∙◌, arith}
use Rattle.std.proofs.lemmas.Bool.Decides.{nat_tests}
use Rattle.std.proofs.lemmas.Nat.{from_be_bytes-to_be_bytes_4}
use Rattle.std.proofs.lemmas.Slice.Eq.{bytes_eq-Decides}
use Rattle.std.specs.Prelude.{◌==◌, bytes_eq}
use Rattle.std.specs.Int.{w32, from_be_bytes, to_be_bytes}
use Rattle.std.specs.List.{list_any}
use Rattle.net_types.specs.declared.address.Ip4.{Ip4}
use Rattle.net_types.specs.declared.address.Mac.{Mac}
use Rattle.net_types.specs.AddressText.{FitsIp4}
use Rattle.frame_link.specs.Fields.{ip4_text}
use Rattle.frame_link.specs.Packets.{announcement_text}
use Rattle.lease6_text.proofs.Apart.{none_passes, passes_none}
use Rattle.evidence_words.specs.Entries.{Offer, Entry}
use Rattle.evidence_words.specs.Inputs.{Site, offers_at}
use Rattle.local_evidence.specs.LinkLocalBasis.{AnnouncesNoOther, IsAlone}
use Rattle.local_judge.specs.Choices.{announces_other, is_alone}
use Rattle.probe_table.specs.Targets.{target_in}
use Rattle.probe_table.proofs.Requests.{same_address, target_bytes}

-- ---- the last four bytes of an announcement

target_number : (mac : Mac) (addr : Ip4) → (target_in (announcement_text mac addr)).number ≡ from_be_bytes w32 (ip4_text addr)
target_number mac addr = target_bytes mac addr addr

four_fit : (n : ℕ) → from_be_bytes w32 (to_be_bytes w32 n) < 2 ^ 32
four_fit n = omega arith

-- ---- one frame

equal : (a b : ℕ) → not (a == b) ≡ false → a ≡ b
equal a b h = grind (arith, nat_tests)

unequal : (a b : ℕ) → a ≡ b → not (a == b) ≡ false
unequal a b h = grind (arith, nat_tests)

module _ (mac : Mac) (addr : Ip4) where
  second_fails : (a b : Bool) → a ≡ true → (a && b) ≡ false → b ≡ false
  second_fails true b is h = h
  second_fails false b is h = absurd cc

  no_other : (bytes : List ℕ) → announces_other mac addr bytes ≡ false → (other : Ip4) → FitsIp4 other → bytes ≡ announcement_text mac other → other ≡ addr
  no_other bytes h other fits is =
      let number : (target_in bytes).number ≡ other.number =
      ap (λ frame. (target_in frame).number) is ∙ target_number mac other ∙ from_be_bytes-to_be_bytes_4 other.number fits in
      let target : target_in bytes ≡ other = same_address (target_in bytes) other number in
      let whole : bytes ≡ announcement_text mac (target_in bytes) = is ∙ ap (λ (a : Ip4). announcement_text mac a) (sym target) in
      let test : not ((target_in bytes).number == addr.number) ≡ false =
      second_fails (bytes_eq bytes (announcement_text mac (target_in bytes))) (not ((target_in bytes).number == addr.number))
      ((bytes_eq-Decides bytes (announcement_text mac (target_in bytes))).1 whole) h in
      same_address other addr (sym number ∙ equal (target_in bytes).number addr.number test)

  target_fits : (bytes : List ℕ) → bytes ≡ announcement_text mac (target_in bytes) → FitsIp4 (target_in bytes)
  target_fits bytes whole =
      let number : (target_in bytes).number ≡ from_be_bytes w32 (ip4_text (target_in bytes)) =
      ap (λ frame. (target_in frame).number) whole ∙ target_number mac (target_in bytes) in
      subst (λ n. n < 2 ^ 32) (sym number) (four_fit (target_in bytes).number)

  fails : (a b : Bool) → (a ≡ true → b ≡ false) → (a && b) ≡ false
  fails true b h = h refl
  fails false b h = refl

  tested : (bytes : List ℕ) → ((other : Ip4) → FitsIp4 other → bytes ≡ announcement_text mac other → other ≡ addr) → announces_other mac addr bytes ≡ false
  tested bytes h =
      fails (bytes_eq bytes (announcement_text mac (target_in bytes))) (not ((target_in bytes).number == addr.number)) (λ is.
      let whole : bytes ≡ announcement_text mac (target_in bytes) = (bytes_eq-Decides bytes (announcement_text mac (target_in bytes))).0 is in
      unequal (target_in bytes).number addr.number (ap (λ (a : Ip4). a.number) (h (target_in bytes) (target_fits bytes whole) whole)))

-- ---- the frames of a turn

fails_then : (b : Bool) → not b ≡ true → b ≡ false
fails_then true h = absurd cc
fails_then false h = refl

abbrev announces : Site → Ip4 → Offer → Bool
announces site addr o = announces_other site.managed.spec.mac addr o.bytes

pub alone : (site : Site) (addr : Ip4) (e : Entry) → is_alone site addr e ≡ true → IsAlone site addr e
alone site addr e h =
    none_passes (announces site addr) (AnnouncesNoOther site addr) (λ o n. no_other site.managed.spec.mac addr o.bytes n)
    (offers_at site e) (fails_then (list_any (announces site addr) (offers_at site e)) h)

pub is_tested : (site : Site) (addr : Ip4) (e : Entry) → IsAlone site addr e → is_alone site addr e ≡ true
is_tested site addr e h =
    ap not (passes_none (announces site addr) (AnnouncesNoOther site addr) (λ o n. tested site.managed.spec.mac addr o.bytes n) (offers_at site e) h)
