use Rattle.std.proofs.Common.{rules}
use Rattle.client_core.proofs.SameLists.{same_items}
use Rattle.lab_text.proofs.leases.are_same.Goals as goal

pub returns : goal.returns
returns c = same_items _ (λ a b e. search rules) (λ a b e. search rules) c.eq.result c.args.one.now c.args.other.now c.eq.ensures
