-- None is given so far.
use Rattle.std.proofs.Common.{◌≡◌, [], drop}
use Rattle.audit_words.specs.Shown.{site_shown}
use Rattle.basis_turns.specs.Turns.{shown_after}
use Rattle.row_reasons.specs.Finding.{first_given, own_at}
use Rattle.row_reasons.proofs.finding.first_own.Given as goal

abbrev pub invariant-loop-one : goal.invariant-loop-one
invariant-loop-one l =
    first_given (λ w. own_at l.number l.net (shown_after [] l.turns) (site_shown w.seat)) l.watched
    ≡ first_given (λ w. own_at l.number l.net (shown_after [] l.turns) (site_shown w.seat)) (drop l.one-index l.watched)
