use Rattle.resolver_text.proofs.OrderedParts.{parts_ordered}
use Rattle.resolver_text.proofs.laws.parts_are_ordered.Goals as goal

pub returns : goal.returns
returns c = parts_ordered
