use Rattle.turn_model.proofs.HooksApart.{hooks_apart, waits_by_hooks}
use Rattle.turn_model.proofs.laws.hooks_change_nothing.Goals as goal

pub returns : goal.returns
returns c = record { lives = hooks_apart; waits = waits_by_hooks }
