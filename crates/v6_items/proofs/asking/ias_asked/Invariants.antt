use Rattle.std.proofs.Common.{◌≡◌, map, take}
use Rattle.v6_message.specs.Requests.{asked_content}
use Rattle.lease6_text.specs.Leases.{ias_content}
use Rattle.v6_items.specs.Asking.{ias_asked}
use Rattle.v6_items.proofs.asking.ias_asked.Given as goal

abbrev pub invariant-loop-ask : goal.invariant-loop-ask
invariant-loop-ask l = map asked_content l.all.items ≡ ias_asked l.scope (ias_content l.ias) (take l.ask-index l.asks)
