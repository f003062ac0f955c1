use Rattle.device_calls.specs.Calls.{Poll}
use Rattle.device_calls.proofs.Doing.{does_one}
use Rattle.device_calls.proofs.Begun.{begun_one}
use Rattle.life_devices.proofs.Begins.{on_err}
use Rattle.life_asks.proofs.hooks.poll.Goals as goal

pub returns-clause-does : goal.returns-clause-does
returns-clause-does g c = does_one (Poll c.args.number) c.poll-answer.result _ _ _ _ c.poll-answer.ensures.one c.in_ok-say.ensures

pub returns-in_err-say-clause-begun : goal.returns-in_err-say-clause-begun
returns-in_err-say-clause-begun g c =
    on_err c.from_residual.result (begun_one (Poll c.args.number) c.poll-answer.result _ _ c.poll-answer.ensures.one)
