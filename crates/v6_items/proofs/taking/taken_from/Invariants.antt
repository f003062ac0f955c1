use Rattle.std.proofs.Common.{◌≡◌, take}
use Rattle.v6_items.specs.Meetings.{taking_content}
use Rattle.v6_items.specs.Taking.{taken_from}
use Rattle.v6_items.proofs.taking.taken_from.Given as goal

abbrev pub invariant-saids : goal.invariant-saids
invariant-saids l = taking_content l.taken ≡ taken_from l.at l.fn.items.items (take l.said-index l.saids)
