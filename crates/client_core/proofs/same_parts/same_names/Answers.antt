use Rattle.std.proofs.Common.{rules}
use Rattle.std.specs.String.{string_bytes}
use Rattle.client_core.proofs.SameLists.{same_lists}
use Rattle.client_core.proofs.same_parts.same_names.Goals as goal

pub returns : goal.returns
returns c = same_lists string_bytes _ (λ a b e. search rules) (λ a b e. search rules) c.eq.result c.args.one.now c.args.other.now c.eq.ensures
