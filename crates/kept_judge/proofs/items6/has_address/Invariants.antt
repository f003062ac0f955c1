-- None of the IAs so far has it.
use Rattle.std.proofs.Common.{◌≡◌, drop}
use Rattle.lease6_text.specs.Leases.{ias_content}
use Rattle.kept_judge.specs.Asking6.{has_live_item, is_na}
use Rattle.kept_judge.proofs.items6.has_address.Given as goal

abbrev pub invariant-loop-ia : goal.invariant-loop-ia
invariant-loop-ia l =
    has_live_item is_na l.net l.now (ias_content l.ias) ≡ has_live_item is_na l.net l.now (ias_content (drop l.ia-index l.ias))
