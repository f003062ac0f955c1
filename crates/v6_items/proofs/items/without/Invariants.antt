use Rattle.std.proofs.Common.{◌≡◌, take}
use Rattle.lease6_text.specs.Leases.{ias_content}
use Rattle.v6_items.specs.Items.{without}
use Rattle.v6_items.proofs.items.without.Given as goal

abbrev pub invariant-ias : goal.invariant-ias
invariant-ias l = ias_content l.left.items ≡ without l.cause (ias_content (take l.ia-index l.ias))
