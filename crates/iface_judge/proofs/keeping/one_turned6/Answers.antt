use Rattle.std.proofs.Common.{◌≡◌, ◌∷◌, List, ap, ◌∙◌}
use Rattle.item_judge.specs.Lease6Evidence.Exchanges6.{seen6_in}
use Rattle.item_judge.specs.Lease6Evidence.Replies6.{message6_at}
use Rattle.audit_words.specs.Shown.{entry_shown, site_shown}
use Rattle.audit_words.specs.declared.shown.Offer.{Offer}
use Rattle.iface_judge.specs.Telling.{spoken_by}
use Rattle.iface_judge.proofs.KeptTurns.{reply_same}
use Rattle.iface_judge.proofs.keeping.one_turned6.Goals as goal

pub returns : goal.returns
returns c = λ past tells told.
    let site = site_shown c.args.site.now in
    let e = entry_shown c.args.entry.now in
    c.turned.ensures past
    (c.deref-2.ensures.value ∙ c.in_ok-spoken.ensures ∙ ap (λ (offers : List Offer). spoken_by site offers) c.deref.ensures.value)
    (c.in_ok-replied.ensures (e ∷ past) tells ∙ reply_same site (seen6_in site (e ∷ past)).current (message6_at site e))
    told
