use Rattle.std.proofs.Common.{◌≡◌, map, take}
use Rattle.v6_message.specs.Requests.{asked_content}
use Rattle.v6_items.proofs.asking.ias_copied.Given as goal

abbrev pub invariant-stood : goal.invariant-stood
invariant-stood l = map asked_content l.all.items ≡ map asked_content (take l.ia-index l.stood)
