use Rattle.std.proofs.Common.{[], take}
use Rattle.audit_words.specs.Shown.{site_shown}
use Rattle.item_judge.specs.Judging.{Tells}
use Rattle.basis_turns.specs.Turns.{shown_after}
use Rattle.basis_turns.proofs.items.judge_after.Given as goal

abbrev pub invariant-turns : goal.invariant-turns
invariant-turns l = Tells l.judge (site_shown l.site) (shown_after [] (take l.turn-index l.turns))
