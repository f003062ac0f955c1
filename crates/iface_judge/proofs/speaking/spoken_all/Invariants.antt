use Rattle.std.proofs.Common.{◌≡◌, take}
use Rattle.audit_words.specs.Shown.{site_shown}
use Rattle.iface_judge.specs.Telling.{spoken_by}
use Rattle.iface_judge.proofs.speaking.spoken_all.Given as goal

abbrev pub invariant-loop-offer : goal.invariant-loop-offer
invariant-loop-offer l = l.all.items ≡ spoken_by (site_shown l.site) (take l.offer-index l.offers)
