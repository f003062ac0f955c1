use Rattle.std.proofs.Common.{ℕ, ◌∙◌, ap}
use Rattle.evidence_words.specs.Inputs.{carrier_after}
use Rattle.local_judge.specs.Choices.{goes_on}
use Rattle.local_judge.proofs.Turns.{tells_on}
use Rattle.local_judge.proofs.judge.LocalJudge.turned.Goals as goal

pub returns : goal.returns
returns c =
    λ past tells. tells_on c.args.site.now c.args.entry.now past c.args.self tells
    (record { up = c.carrier_after.result; probed = c.in_ok-probed.probed; chosen = c.in_ok-chosen.chosen }) c.goes_on-calm.result
    (c.goes_on-calm.ensures ∙ ap (λ (index : ℕ). goes_on c.args.self.up index c.args.entry.now.event) c.index-index.ensures)
    (c.carrier_after.ensures ∙ ap (λ (index : ℕ). carrier_after index c.args.entry.now.event c.args.self.up) c.index-index.ensures)
    c.in_ok-chosen.ensures c.in_ok-probed.ensures
