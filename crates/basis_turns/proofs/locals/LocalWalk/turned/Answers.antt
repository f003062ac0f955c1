use Rattle.std.proofs.Common.{◌∙◌, rules}
use Rattle.audit_words.specs.Shown.{entry_shown, site_shown}
use Rattle.evidence_words.specs.Inputs.{carrier_after}
use Rattle.lease_judge.specs.LocalJudges.Choices.{goes_on, is_calm, turn_for}
use Rattle.basis_turns.specs.LocalFinds.{begun_in, first_of, gone_on}
use Rattle.basis_turns.proofs.locals.LocalWalk.turned.Goals as goal

pub returns : goal.returns
returns c = λ past count tells.
    let s = site_shown c.args.site.now in
    let e = entry_shown c.args.turn.now.entry in
    let calm = c.goes_on-calm.ensures ∙ (λ i. goes_on (tells.up i) (c.index-index.ensures i) e.event) in
    let times = c.times-times.ensures ∙ tells.probes.table c.args.addr (search rules) in
    let turn = c.in_ok-met.ensures ∙ (λ i. turn_for (calm i) s c.args.addr e (times i)) in
    let begun = c.begun_in-begun.ensures ∙ (λ i. begun_in (count i) (tells.probes.chain i).three (turn i)) in
    let older = c.gone_on-older.ensures ∙ (λ i. gone_on (turn i) (tells.earliest i)) in
    let newer = c.gone_on-newer.ensures ∙ (λ i. gone_on (turn i) (tells.latest i)) in
    record {
      judge = c.in_ok-judge.ensures past tells.judge;
      up = c.carrier_after-up.ensures ∙ (λ i. carrier_after (c.index-index.ensures i) e.event (tells.up i));
      probes = c.in_ok-probes.ensures (is_calm s) past count calm tells.probes;
      earliest = c.first_of.ensures ∙ (λ i. first_of (older i) (begun i));
      latest = c.first_of-2.ensures ∙ (λ i. first_of (begun i) (newer i));
    }
