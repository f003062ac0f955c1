use Rattle.client_core.proofs.Naming.{named_none}
use Rattle.client_core.proofs.named.Named.none.Goals as goal

pub returns : goal.returns
returns c = λ index place near. named_none 65 c.none.result index place c.none.ensures.is near
