use Rattle.std.proofs.Common.{List, ap, ◌∙◌}
use Rattle.std.specs.List.{list_all}
use Rattle.net_types.specs.declared.address.Ip4.{Ip4}
use Rattle.lease_judge.specs.Probes.{probed_of}
use Rattle.lease_judge.proofs.SettledProbes.{all_probed}
use Rattle.lease_judge.proofs.probes.LeaseProbes.is_settled.Goals as goal

pub returns : goal.returns
returns c =
    all_probed c.args.self.now c.in_ok-thrice.thrice.items c.are_probed.result c.in_ok-thrice.ensures
    (c.are_probed.ensures ∙ ap (λ (addrs : List Ip4). list_all (probed_of c.args.self.now) addrs) c.deref.ensures.value)
