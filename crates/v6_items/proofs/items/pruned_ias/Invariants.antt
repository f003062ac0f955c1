use Rattle.std.proofs.Common.{◌≡◌, take}
use Rattle.lease6_text.specs.Leases.{ias_content}
use Rattle.v6_items.specs.Items.{pruned_ias}
use Rattle.v6_items.proofs.items.pruned_ias.Given as goal

abbrev pub invariant-loop-ask : goal.invariant-loop-ask
invariant-loop-ask l = ias_content l.left.items ≡ pruned_ias l.at (ias_content l.ias) (take l.ask-index l.asks)
