use Rattle.std.proofs.Common.{◌≡◌, ◌-◌, map}
use Rattle.script_model.specs.Lines.{numbers_from}
use Rattle.made_script.specs.MadeHosts.{iface_of}
use Rattle.made_script.proofs.hosts.made_ifaces.Given as goal

abbrev pub invariant-loop-index : goal.invariant-loop-index
invariant-loop-index l = l.ifaces.items ≡ map iface_of (numbers_from 1 (l.index - 1))
