-- No other address is announced in a turn exactly where each one that is announced is this one.
use Rattle.std.proofs.Common.{◌≡◌, Bool, true, false, not, ◌&&◌, ◌||◌, cond, if◌then◌else◌, List, [], ◌∷◌, map, Option, Some, None, refl, sym, ap, ◌∙◌}
use Rattle.std.specs.Prelude.{◌==◌, bytes_eq}
use Rattle.std.specs.List.{list_any, list_all, filter_map, cons_option}
use Rattle.net_types.specs.declared.address.Ip4.{Ip4}
use Rattle.frame_link.specs.Packets.{announcement_text}
use Rattle.evidence_words.specs.Entries.{Offer as Told, offers_on}
use Rattle.evidence_words.specs.Inputs.{index_at}
use Rattle.audit_words.specs.Shown.{offer_shown, site_shown}
use Rattle.audit_words.specs.declared.shown.Offer.{Offer}
use Rattle.audit_words.specs.declared.shown.Site.{Site}
use Rattle.probe_table.specs.ByAddress.{is_addr}
use Rattle.probe_table.specs.Targets.{target_in}
use Rattle.local_judge.specs.Choices.{announces_other}
use Rattle.local_judge.specs.Judge.{announcement_of}

module _ (site : Site) (addr : Ip4) where
  abbrev all_it : List Offer → Bool
  all_it offers = list_all (is_addr addr) (filter_map (announcement_of site) offers)

  abbrev other : Told → Bool
  other o = announces_other site.managed.spec.mac addr o.bytes

  abbrev shown : List Offer → List Told
  shown offers = offers_on (index_at (site_shown site)) (map offer_shown offers)

  abbrev is_it : Option Ip4 → Bool
  is_it None = true
  is_it (Some target) = is_addr addr target

  head_first : (one : Option Ip4) (more : List Ip4) → list_all (is_addr addr) (cons_option one more) ≡ (is_it one && list_all (is_addr addr) more)
  head_first None more = refl
  head_first (Some target) more = refl

  kept_first : (here : Bool) (o : Told) (rest : List Told) → list_any other (cond here (o ∷ rest) rest) ≡ ((here && other o) || list_any other rest)
  kept_first true o rest = refl
  kept_first false o rest = refl

  twice : (b : Bool) → b ≡ not (not b)
  twice true = refl
  twice false = refl

  neither : (a b : Bool) → (not a && not b) ≡ not (a || b)
  neither true b = refl
  neither false b = refl

  one_offer : (here whole : Bool) (target : Ip4)
      → is_it (if here then (if whole then Some target else None) else None) ≡ not (here && (whole && not (is_addr addr target)))
  one_offer true true target = twice (is_addr addr target)
  one_offer true false target = refl
  one_offer false whole target = refl

  pub announced_only : (offers : List Offer) → all_it offers ≡ not (list_any other (shown offers))
  announced_only [] = refl
  announced_only (o ∷ offers) =
      let here : Bool = o.iface.number == index_at (site_shown site) in
      let target : Ip4 = target_in o.bytes.items in
      head_first (announcement_of site o) (filter_map (announcement_of site) offers)
      ∙ ap (λ (b : Bool). b && all_it offers) (one_offer here (bytes_eq o.bytes.items (announcement_text site.managed.spec.mac target)) target)
      ∙ ap (λ (b : Bool). not (here && other (offer_shown o)) && b) (announced_only offers)
      ∙ neither (here && other (offer_shown o)) (list_any other (shown offers))
      ∙ ap not (sym (kept_first here (offer_shown o) (shown offers)))
