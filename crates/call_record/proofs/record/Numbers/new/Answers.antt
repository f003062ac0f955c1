use Rattle.call_record.proofs.FoundNumbers.{rises_where}
use Rattle.call_record.proofs.record.Numbers.new.Goals as goal

pub invariant_of-result : goal.invariant_of-result
invariant_of-result c = rises_where c.deref.result.now c.args.list.items c.is_sorted-rises.result c.deref.ensures.value c.is_sorted-rises.ensures.cases
