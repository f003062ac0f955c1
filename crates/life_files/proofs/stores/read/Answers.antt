use Rattle.device_calls.specs.Calls.{Read}
use Rattle.device_calls.proofs.Doing.{does_one}
use Rattle.lease_file.specs.FileReads.{got_reading}
use Rattle.device_calls.specs.Programs.{Done, Then}
use Rattle.device_calls.proofs.Begun.{begun_none, begun_one}
use Rattle.life_devices.proofs.Begins.{on_err}
use Rattle.life_files.proofs.stores.read.Goals as goal

pub returns-clause-does : goal.returns-clause-does
returns-clause-does g c = does_one (Read c.args.name.now) (got_reading c.in_ok-got.got) _ _ _ _ c.in_ok-got.ensures.one c.in_ok-say_read.ensures

pub returns-in_err-got-clause-begun : goal.returns-in_err-got-clause-begun
returns-in_err-got-clause-begun g c =
    on_err c.from_residual.result (begun_none (Then (Read c.args.name.now) Done) _ _ c.in_err-got.ensures.memory)

pub returns-in_err-say_read-clause-begun : goal.returns-in_err-say_read-clause-begun
returns-in_err-say_read-clause-begun g c =
    on_err c.from_residual-in_err-say_read.result (begun_one (Read c.args.name.now) (got_reading c.in_ok-got.got) _ _ c.in_ok-got.ensures.one)
