use Rattle.std.proofs.Common.{sym, ◌∙◌}
use Rattle.life_asks.proofs.Hookings.{none_runs}
use Rattle.life_asks.proofs.hooks.poll_child.Goals as goal

pub returns-in-None-clause-does : goal.returns-in-None-clause-does
returns-in-None-clause-does g c = none_runs c.args.hooks.now c.args.at _ _ (sym c.in-None.is ∙ c.running.ensures)
