-- None of the IAs so far has it.
use Rattle.std.proofs.Common.{◌≡◌, drop}
use Rattle.lease6_text.specs.Leases.{ias_content}
use Rattle.lease6_text.specs.LineParts.{is_ia}
use Rattle.kept_judge.specs.Asking6.{has_live_item}
use Rattle.kept_judge.proofs.items6.has_item.Given as goal

abbrev pub invariant-loop-ia : goal.invariant-loop-ia
invariant-loop-ia l =
    has_live_item (is_ia (l.ask.kind, l.ask.iaid)) l.net l.now (ias_content l.ias)
    ≡ has_live_item (is_ia (l.ask.kind, l.ask.iaid)) l.net l.now (ias_content (drop l.ia-index l.ias))
