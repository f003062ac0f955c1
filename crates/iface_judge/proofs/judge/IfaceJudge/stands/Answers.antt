use Rattle.std.proofs.Common.{◌||◌, Bool, sym, ap, ◌∙◌}
use Rattle.audit_words.specs.Shown.{site_shown}
use Rattle.lease_judge.specs.LocalJudges.Judge.{gives_in}
use Rattle.iface_judge.proofs.Staying.{local_gives}
use Rattle.iface_judge.proofs.judge.IfaceJudge.stands.Goals as goal

pub returns-then-gives : goal.returns-then-gives
returns-then-gives c = λ past tells.
    c.if-gives.true
    ∙ sym (ap (λ (b : Bool). b || gives_in (site_shown c.args.site.now) c.args.net past) (sym (c.gives.ensures past tells.statics) ∙ c.if-gives.true))

pub returns-else-gives : goal.returns-else-gives
returns-else-gives c = λ past tells.
    let site = site_shown c.args.site.now in
    local_gives c.args.self.now.local site past c.args.net c.gives-else-gives.result (λ seen told. c.gives-else-gives.ensures site seen told) tells.local
    ∙ sym (ap (λ (b : Bool). b || gives_in site c.args.net past) (sym (c.gives.ensures past tells.statics) ∙ c.if-gives.false))
