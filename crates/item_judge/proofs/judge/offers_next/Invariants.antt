use Rattle.std.proofs.Common.{◌≡◌, drop, map}
use Rattle.std.specs.Option.{option_map}
use Rattle.audit_words.specs.Shown.{offer_shown, site_shown}
use Rattle.item_judge.specs.Judging.{offers_next}
use Rattle.item_judge.specs.Kept.{asking_content}
use Rattle.item_judge.proofs.judge.offers_next.Given as goal

abbrev pub invariant-offers : goal.invariant-offers
invariant-offers l =
    offers_next (site_shown l.site) (map offer_shown (drop l.offer-index l.offers)) (option_map asking_content l.next)
    ≡ offers_next (site_shown l.site) (map offer_shown l.offers) (option_map asking_content l.initial.next)
