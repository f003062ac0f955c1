use Rattle.std.proofs.Common.{[], take}
use Rattle.audit_words.specs.Shown.{site_shown}
use Rattle.basis_turns.specs.ItemWalks.{Tells}
use Rattle.basis_turns.specs.Turns.{shown_after}
use Rattle.basis_turns.proofs.items.reply_turn.Given as goal

abbrev pub invariant-turns : goal.invariant-turns
invariant-turns l = Tells l.held (site_shown l.site) (shown_after [] (take l.number l.turns)) l.walk
