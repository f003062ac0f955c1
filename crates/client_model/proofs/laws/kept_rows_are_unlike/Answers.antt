use Rattle.client_model.proofs.Keepers.{kept_unlike, dropped_have_keeper, addresses_stay}
use Rattle.client_model.proofs.laws.kept_rows_are_unlike.Goals as goal

pub returns : goal.returns
returns c = record { unlike = kept_unlike; keepers = dropped_have_keeper; addresses = addresses_stay }
