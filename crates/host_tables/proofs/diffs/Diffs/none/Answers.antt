use Rattle.host_tables.proofs.Differing.{none_sums}
use Rattle.host_tables.proofs.diffs.Diffs.none.Goals as goal

pub returns : goal.returns
returns c = none_sums _ c.new.ensures.empty c.new-2.ensures.empty
