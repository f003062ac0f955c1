use Rattle.std.proofs.Common.{[], take}
use Rattle.audit_words.specs.Shown.{site_shown}
use Rattle.basis_turns.specs.LocalWalks.{Tells}
use Rattle.basis_turns.specs.Turns.{shown_after}
use Rattle.basis_turns.proofs.locals.LocalWalk.after.Given as goal

abbrev pub invariant-turns : goal.invariant-turns
invariant-turns l = Tells (site_shown l.site) l.addr (shown_after [] (take l.number l.turns)) l.walk
