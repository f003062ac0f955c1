use Rattle.std.proofs.Common.{[], take}
use Rattle.audit_words.specs.Shown.{site_shown}
use Rattle.static_judge.specs.Judge.{Tells}
use Rattle.basis_turns.specs.Turns.{shown_after}
use Rattle.basis_turns.proofs.statics.is_static.Given as goal

abbrev pub invariant-turns : goal.invariant-turns
invariant-turns l = Tells l.judge (site_shown l.site) (shown_after [] (take l.turn-index l.turns))
