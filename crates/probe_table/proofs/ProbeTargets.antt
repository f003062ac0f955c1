-- The frames that probe an address are those whose target it is.
use Rattle.std.proofs.Common.{◌≡◌, ℕ, Bool, true, false, ◌&&◌, ◌||◌, if◌then◌else◌, List, [], ◌∷◌, Option, Some, None, refl, sym, ◌∙◌, ap, map, cond, arith}
use Rattle.std.proofs.lemmas.Bool.Decides.{nat_tests}
use Rattle.std.proofs.lemmas.Slice.Eq.{bytes_eq-Decides}
use Rattle.std.specs.Prelude.{◌==◌, bytes_eq}
use Rattle.std.specs.List.{list_any, filter_map, cons_option}
use Rattle.net_types.specs.declared.address.Ip4.{Ip4}
use Rattle.net_types.specs.declared.address.Mac.{Mac}
use Rattle.net_types.specs.AddressText.{FitsIp4}
use Rattle.frame_link.specs.Packets.{probe_text}
use Rattle.audit_words.specs.EvidenceWords.Inputs.{index_at}
use Rattle.audit_words.specs.EvidenceWords.Entries.{Offer as Told, offers_on}
use Rattle.audit_words.specs.EvidenceWords.Probed.{probe_taken}
use Rattle.audit_words.specs.Shown.{offer_shown, site_shown}
use Rattle.audit_words.specs.declared.shown.Offer.{Offer}
use Rattle.audit_words.specs.declared.shown.Site.{Site}
use Rattle.probe_table.specs.ByAddress.{is_addr}
use Rattle.probe_table.specs.Targets.{target_in, probed_in, probe_of}
use Rattle.probe_table.proofs.Requests.{target_number, same_address}

-- ---- one frame

abbrev none : Ip4
none = record { number = 0 }

same : (a b : ℕ) → (a == b) ≡ true → a ≡ b
same a b e = grind (arith, nat_tests)

alike : (a b : ℕ) → a ≡ b → (a == b) ≡ true
alike a b e = grind (arith, nat_tests)

-- whether an address that may be there is this one
abbrev is_there : Ip4 → Option Ip4 → Bool
is_there addr None = false
is_there addr (Some target) = is_addr addr target

module _ (mac : Mac) (addr : Ip4) (fits : FitsIp4 addr) (bytes : List ℕ) where
  abbrev probes : Ip4 → Bool
  probes target = bytes_eq bytes (probe_text mac target)

  -- a frame that probes the address has it as its target
  target_of_probe : probes addr ≡ true → target_in bytes ≡ addr
  target_of_probe h =
      let whole : bytes ≡ probe_text mac addr = (bytes_eq-Decides bytes (probe_text mac addr)).0 h in
      same_address (target_in bytes) addr (ap (λ frame. (target_in frame).number) whole ∙ target_number mac none addr fits)

  told : (whole here there : Bool) → (there ≡ true → whole ≡ true) → (there ≡ true → here ≡ true) → (whole ≡ true → here ≡ true → there ≡ true)
      → is_there addr (if whole then Some (target_in bytes) else None) ≡ (if whole then is_addr addr (target_in bytes) else false)
  told true here there a b c = refl
  told false here there a b c = refl

  both : (whole here there : Bool) → (there ≡ true → whole ≡ true) → (there ≡ true → here ≡ true) → (whole ≡ true → here ≡ true → there ≡ true)
      → (if whole then here else false) ≡ there
  both true true there a b c = sym (c refl refl)
  both true false true a b c = b refl
  both true false false a b c = refl
  both false here true a b c = a refl
  both false here false a b c = refl

  frame_told : is_there addr (probed_in mac bytes) ≡ probes addr
  frame_told =
      let whole_if : probes addr ≡ true → probes (target_in bytes) ≡ true = λ h. ap probes (target_of_probe h) ∙ h in
      let here_if : probes addr ≡ true → is_addr addr (target_in bytes) ≡ true =
      λ h. alike (target_in bytes).number addr.number (ap (λ (a : Ip4). a.number) (target_of_probe h)) in
      let there_if : probes (target_in bytes) ≡ true → is_addr addr (target_in bytes) ≡ true → probes addr ≡ true =
      λ whole here. ap probes (sym (same_address (target_in bytes) addr (same (target_in bytes).number addr.number here))) ∙ whole in
      told (probes (target_in bytes)) (is_addr addr (target_in bytes)) (probes addr) whole_if here_if there_if
      ∙ both (probes (target_in bytes)) (is_addr addr (target_in bytes)) (probes addr) whole_if here_if there_if

-- ---- the frames of a turn

module _ (site : Site) (addr : Ip4) (fits : FitsIp4 addr) where
  abbrev probes_it : List ℕ → Bool
  probes_it bytes = bytes_eq bytes (probe_text site.managed.spec.mac addr)

  abbrev among : List Offer → Bool
  among offers = list_any (is_addr addr) (filter_map (probe_of site) offers)

  abbrev taken : List Offer → Bool
  taken offers = probe_taken (site_shown site) addr (offers_on (index_at (site_shown site)) (map offer_shown offers))

  head_first : (one : Option Ip4) (more : List Ip4)
      → list_any (is_addr addr) (cons_option one more) ≡ (is_there addr one || list_any (is_addr addr) more)
  head_first None more = refl
  head_first (Some target) more = refl

  abbrev passes : Told → Bool
  passes o = o.taken && probes_it o.bytes

  kept_first : (here : Bool) (o : Told) (rest : List Told)
      → list_any passes (cond here (o ∷ rest) rest) ≡ ((here && passes o) || list_any passes rest)
  kept_first true o rest = refl
  kept_first false o rest = refl

  one_offer : (taken here : Bool) (found : Option Ip4) (probes : Bool) → is_there addr found ≡ probes
      → is_there addr (if taken && here then found else None) ≡ (here && (taken && probes))
  one_offer true true found probes is = is
  one_offer true false found probes is = refl
  one_offer false true found probes is = refl
  one_offer false false found probes is = refl

  -- the targets are the addresses for which the link took a probe
  pub targets_told : (offers : List Offer) → among offers ≡ taken offers
  targets_told [] = refl
  targets_told (o ∷ offers) =
      let here : Bool = o.iface.number == index_at (site_shown site) in
      head_first (probe_of site o) (filter_map (probe_of site) offers)
      ∙ ap (λ (b : Bool). b || among offers)
      (one_offer o.taken here (probed_in site.managed.spec.mac o.bytes.items) (probes_it o.bytes.items)
      (frame_told site.managed.spec.mac addr fits o.bytes.items))
      ∙ ap (λ (b : Bool). (here && passes (offer_shown o)) || b) (targets_told offers)
      ∙ sym (kept_first here (offer_shown o) (offers_on (index_at (site_shown site)) (map offer_shown offers)))
