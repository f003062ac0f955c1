use Rattle.std.proofs.Common.{◌∙◌, ap, filter}
use Rattle.lease_judge.specs.Probes.{is_fresh}
use Rattle.lease_judge.proofs.ProbesHeld.{fresh_so}
use Rattle.lease_judge.proofs.probes.LeaseProbes.fresh.Goals as goal

pub returns : goal.returns
returns c =
    fresh_so c.args.self.now c.args.now c.in_ok-ready.ready.items c.in_ok-fresh.fresh.items c.in_ok-ready.ensures
    (c.in_ok-fresh.ensures ∙ ap (filter (is_fresh c.args.self.now c.args.now)) c.deref.ensures.value)
