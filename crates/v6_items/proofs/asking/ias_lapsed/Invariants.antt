use Rattle.std.proofs.Common.{◌≡◌, map, take}
use Rattle.v6_message.specs.Requests.{asked_content}
use Rattle.lease6_text.specs.Leases.{ias_content}
use Rattle.v6_items.specs.Asking.{ias_lapsed}
use Rattle.v6_items.proofs.asking.ias_lapsed.Given as goal

abbrev pub invariant-stood : goal.invariant-stood
invariant-stood l = map asked_content l.all.items ≡ ias_lapsed l.at (ias_content l.ias) (map asked_content (take l.ia-index l.stood))
