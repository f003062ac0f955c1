use Rattle.device_calls.specs.Calls.{Abandon}
use Rattle.device_calls.proofs.Doing.{does_one}
use Rattle.life_devices.proofs.Successes.{if_ok}
use Rattle.device_calls.proofs.Begun.{begun_one}
use Rattle.life_devices.proofs.Begins.{on_err}
use Rattle.life_asks.proofs.hooks.abandon.Goals as goal

pub returns-clause-does : goal.returns-clause-does
returns-clause-does g c = if_ok c.say.result (λ x prints. does_one (Abandon c.args.number) x _ _ _ _ c.abandon.ensures.one prints) c.say.ensures

pub returns-clause-begun : goal.returns-clause-begun
returns-clause-begun g c = on_err c.say.result (begun_one (Abandon c.args.number) tt _ _ c.abandon.ensures.one)
