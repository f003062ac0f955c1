use Rattle.life_devices.proofs.Successes.{if_ok}
use Rattle.life_asks.proofs.HostSteps.{pending_fit, hosts_changes, hosts_unknown}
use Rattle.life_devices.proofs.Begins.{err_so}
use Rattle.life_asks.proofs.BegunParts.{changes_begun, unknown_begun}
use Rattle.life_asks.proofs.hosts.host_turn.Goals as goal

pub update-requires : goal.update-requires
update-requires g c = pending_fit c.args.pending c.in-Changes.diff c.args.wanted.now c.in-Changes.is c.requires.known c.requires.rows

pub returns-in-Changes-clause-does : goal.returns-in-Changes-clause-does
returns-in-Changes-clause-does g c = if_ok c.update.result
    (λ table. hosts_changes c.args.managed.now c.args.pending c.in-Changes.diff c.args.wanted.now table _ _ _ _ c.in-Changes.is c.requires.in_order)
    c.update.ensures.does

pub returns-in-Unknown-clause-does : goal.returns-in-Unknown-clause-does
returns-in-Unknown-clause-does g c = if_ok c.look_again.result
    (λ table. hosts_unknown c.args.managed.now c.args.pending c.args.wanted.now table _ _ _ _ c.in-Unknown.is)
    c.look_again.ensures.does

pub returns-in-Changes-clause-begun : goal.returns-in-Changes-clause-begun
returns-in-Changes-clause-begun g c =
    err_so c.update.result
    (λ begins. changes_begun c.args.managed.now c.args.pending c.in-Changes.diff c.args.wanted.now _ _ c.in-Changes.is c.requires.in_order begins)
    c.update.ensures.begun

pub returns-in-Unknown-clause-begun : goal.returns-in-Unknown-clause-begun
returns-in-Unknown-clause-begun g c =
    err_so c.look_again.result
    (λ begun. unknown_begun c.args.managed.now c.args.pending c.args.wanted.now _ _ c.in-Unknown.is begun)
    c.look_again.ensures.begun
