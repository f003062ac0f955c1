use Rattle.probe_table.proofs.Thrice.{probed_so}
use Rattle.probe_table.proofs.table.ProbeTable.probed_thrice.Goals as goal

pub returns : goal.returns
returns c = probed_so c.args.wait c.args.now c.args.self.now _ _ c.deref.ensures.value c.in_ok-addrs.ensures
