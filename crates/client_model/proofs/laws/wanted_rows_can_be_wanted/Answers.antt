use Rattle.host_model.proofs.HostTableRows.{in_order_sorted}
use Rattle.client_model.proofs.HostTableWanted.{wantable}
use Rattle.client_model.proofs.laws.wanted_rows_can_be_wanted.Goals as goal

pub returns : goal.returns
returns c = record { wantable = wantable; in_order = in_order_sorted }
