use Rattle.std.proofs.Common.{Bool, ap}
use Rattle.audit_words.specs.Shown.{entry_shown, site_shown}
use Rattle.kept_judge.specs.declared.standing.Asked6.TheVariants.{Over}
use Rattle.kept_judge.proofs.Spoken.{kept_with, rests_tells6}
use Rattle.kept_judge.proofs.standing.Kept6.rests.Goals as goal

pub returns : goal.returns
returns c = λ past told.
    rests_tells6 (site_shown c.args.site.now) (entry_shown c.args.entry.now) past c.index.result c.args.self
    (kept_with c.carrier_after.result Over) c.requires c.index.ensures (ap (λ (up : Bool). kept_with up Over) c.carrier_after.ensures) told
