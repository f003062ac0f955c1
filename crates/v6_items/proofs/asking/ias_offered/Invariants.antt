use Rattle.std.proofs.Common.{◌≡◌, map, take}
use Rattle.v6_message.specs.Requests.{asked_content}
use Rattle.v6_options.specs.Ias.{ias_in}
use Rattle.v6_items.specs.Asking.{ias_offered}
use Rattle.v6_items.proofs.asking.ias_offered.Given as goal

abbrev pub invariant-loop-ask : goal.invariant-loop-ask
invariant-loop-ask l = map asked_content l.all.items ≡ ias_offered (ias_in l.options) (take l.ask-index l.asks)
