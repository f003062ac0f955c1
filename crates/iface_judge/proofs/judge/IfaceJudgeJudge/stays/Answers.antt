use Rattle.std.proofs.Common.{◌<◌, ◌^◌, ◌&&◌, not, Bool, sym, ap, ◌∙◌, arith}
use Rattle.evidence_words.specs.Inputs.{index_at}
use Rattle.audit_words.specs.Shown.{entry_shown, site_shown}
use Rattle.audit_seats.specs.Concern.{concerns}
use Rattle.iface_judge.proofs.Staying.{stays_so}
use Rattle.iface_judge.proofs.judge.IfaceJudgeJudge.stays.Goals as goal

pub returns-then-self : goal.returns-then-self
returns-then-self c = λ holds past tells.
    let site = site_shown c.args.site.now in
    let e = entry_shown c.args.entry.now in
    let soon : e.moment < 10 ^ 15 = c.requires.moment in
    stays_so c.args.self.now site e past (omega arith)
    (ap (λ (b : Bool). b && not (concerns (index_at site) e)) c.if-self.true ∙ ap not (sym c.concerns.ensures) ∙ holds) tells
