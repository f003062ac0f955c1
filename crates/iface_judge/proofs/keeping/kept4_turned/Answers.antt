use Rattle.std.proofs.Common.{◌≡◌, ◌∷◌, List, ◌∙◌}
use Rattle.share_judge.specs.LeaseEvidence.Exchanges.{seen_in}
use Rattle.audit_words.specs.Shown.{entry_shown, site_shown}
use Rattle.iface_judge.proofs.KeptTurns.{answer_same}
use Rattle.iface_judge.proofs.keeping.kept4_turned.Goals as goal

pub returns : goal.returns
returns c = λ past tells told.
    let site = site_shown c.args.site.now in
    let e = entry_shown c.args.entry.now in
    c.turned.ensures past (c.deref.ensures.value ∙ c.in_ok-messages.ensures (e ∷ past) tells)
    (c.answer-said.ensures (e ∷ past) tells ∙ answer_same site e (seen_in site (e ∷ past)).current)
    told
