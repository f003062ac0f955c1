use Rattle.granted_values.proofs.Spelled.{options_found}
use Rattle.granted_values.proofs.ValuesRead.{values_read, mask_read, times_read}
use Rattle.granted_values.proofs.laws.granted_values_are_read_back.Goals as goal

pub returns-clause-options : goal.returns-clause-options
returns-clause-options c = options_found

pub returns-clause-values : goal.returns-clause-values
returns-clause-values c = values_read

pub returns-clause-mask : goal.returns-clause-mask
returns-clause-mask c = mask_read

pub returns-clause-times : goal.returns-clause-times
returns-clause-times c = times_read
