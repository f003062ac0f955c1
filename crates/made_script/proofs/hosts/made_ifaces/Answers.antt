use Rattle.std.proofs.Common.{◌≡◌, [], ◌∙◌, arith}
use Rattle.made_script.specs.MadeHosts.{iface_of, made_ifaces}
use Rattle.made_script.proofs.Numbers.{more_mapped}
use Rattle.made_script.proofs.hosts.made_ifaces.Goals as goal

pub loop-index-preserved : goal.loop-index-preserved
loop-index-preserved c =
    c.in_ok-push.ensures.items
    ∙ more_mapped iface_of [] c.loop-index.ifaces.items c.in_ok-own_iface.field-0 c.loop-index.index c.loop-index.auto.index c.loop-index.invariant
    c.in_ok-own_iface.ensures

pub returns : goal.returns
unfolding made_ifaces
returns c =
    let last : c.loop-index.index ≡ 65 = omega arith in
    rw last at c.loop-index.invariant
