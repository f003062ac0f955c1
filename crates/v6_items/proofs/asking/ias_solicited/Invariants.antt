use Rattle.std.proofs.Common.{◌≡◌, map, take}
use Rattle.v6_message.specs.Requests.{asked_content}
use Rattle.v6_items.specs.Asking.{ia_solicited}
use Rattle.v6_items.proofs.asking.ias_solicited.Given as goal

abbrev pub invariant-loop-ask : goal.invariant-loop-ask
invariant-loop-ask l = map asked_content l.ias.items ≡ map ia_solicited (take l.ask-index l.asks)
