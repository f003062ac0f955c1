use Rattle.std.proofs.Common.{◌∙◌, rules}
use Rattle.basis_turns.specs.Chains.{fourth_after}
use Rattle.basis_turns.proofs.ProbeSteps.{walked}
use Rattle.basis_turns.proofs.probe_walk.ProbeWalk.turned.Goals as goal

pub returns : goal.returns
returns c = λ test past count calms held.
    walked test c.args.site.now c.args.entry.now c.args.addr past c.args.number c.args.calm c.args.self
    (record { table = c.in_ok-table.table; chain = c.after-chain.result; probed = c.fourth_after-probed.result })
    (record {
      fits = search rules;
      before = c.times-before.result;
      after = c.times-after.result;
      was = c.times-before.ensures;
      is = c.times-after.ensures;
      table = c.in_ok-table.ensures;
      chain = c.after-chain.ensures;
      probed =
          c.fourth_after-probed.ensures
          ∙ (λ i. fourth_after c.args.number c.args.calm (c.is_past-ready.ensures i) c.args.self.chain.three c.args.self.probed);
    })
    count calms held
