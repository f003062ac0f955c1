use Rattle.std.proofs.Common.{◌∷◌, ◌∙◌}
use Rattle.audit_words.specs.Shown.{entry_shown, site_shown}
use Rattle.lease_judge.specs.ProbedTurns.{calm_in}
use Rattle.basis_turns.specs.LeaseFinds.{granting_after, opened_after}
use Rattle.basis_turns.proofs.leases.LeaseWalk.turned.Goals as goal

pub returns : goal.returns
returns c = λ past count tells.
    let s = site_shown c.args.site.now in
    let e = entry_shown c.args.turn.now.entry in
    let judged = c.in_ok-judge.ensures past tells.judge in
    let was_open = c.open_number-open.ensures s past tells.judge in
    let granted = c.granted_number-granted.ensures s past tells.judge in
    let next_open = c.open_number-next_open.ensures s (e ∷ past) judged in
    let next_granted = c.granted_number-next_granted.ensures s (e ∷ past) judged in
    let opened = c.opened_after-opened.ensures ∙ (λ i. opened_after (count i) (was_open i) (next_open i) (tells.opened i)) in
    record {
      judge = judged;
      opened = opened;
      granting = c.after-granting.ensures ∙ (λ i. granting_after (count i) (granted i) (next_granted i) (opened i) (tells.granting i));
      probes = c.in_ok-probes.ensures (calm_in s) past count (c.in_ok-calm.ensures past tells.judge) tells.probes;
    }
