use Rattle.client_model.proofs.QuietKept.{keeps_in_quiet}
use Rattle.client_model.proofs.laws.rows_and_leases_stay_in_quiet_turns.Goals as goal

pub returns : goal.returns
returns c = keeps_in_quiet
