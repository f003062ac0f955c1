use Rattle.lease6_progress.proofs.Interfaces.{clients_run, interface_acquires, interface_holds, interface_stays_held}
use Rattle.lease6_progress.proofs.Speaking.{clients_speak}
use Rattle.lease6_progress.proofs.laws.interfaces_hold_items.Goals as goal

pub returns : goal.returns
returns c = record {
  alone = clients_run;
  speaks = clients_speak;
  acquires = interface_acquires;
  stays = interface_stays_held;
  from_then_on = interface_holds;
}
