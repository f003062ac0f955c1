use Rattle.world.proofs.ExactRows.{row_cmp_exact}
use Rattle.world.proofs.RowLists.{in_order_stays, in_order_has}
use Rattle.world.proofs.row_laws.row_order_laws.Goals as goal

pub returns : goal.returns
returns c = record { exact = row_cmp_exact; kept = in_order_has; stays = in_order_stays }
