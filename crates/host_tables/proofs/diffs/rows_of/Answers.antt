use Rattle.std.proofs.Common.{◌∙◌}
use Rattle.host_tables.proofs.Counting.{none_of_none}
use Rattle.host_tables.proofs.diffs.rows_of.Goals as goal

pub returns-then-is_empty : goal.returns-then-is_empty
returns-then-is_empty c = c.new.ensures.items ∙ none_of_none c.args.set.now.keys (c.is_empty.ensures.0 c.if-is_empty.true)
