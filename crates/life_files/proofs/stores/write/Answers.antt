use Rattle.device_calls.specs.Calls.{WriteAside}
use Rattle.device_calls.proofs.Doing.{does_one}
use Rattle.device_calls.specs.Programs.{Done, Then}
use Rattle.device_calls.proofs.Begun.{begun_none, begun_one}
use Rattle.life_devices.proofs.Begins.{on_err}
use Rattle.life_files.proofs.stores.write.Goals as goal

pub returns-clause-does : goal.returns-clause-does
returns-clause-does g c = does_one (WriteAside c.args.name.now c.args.bytes.now) c.in_ok-done.done _ _ _ _ c.in_ok-done.ensures.one c.in_ok-say.ensures

pub returns-in_err-done-clause-begun : goal.returns-in_err-done-clause-begun
returns-in_err-done-clause-begun g c =
    on_err c.from_residual.result (begun_none (Then (WriteAside c.args.name.now c.args.bytes.now) Done) _ _ c.in_err-done.ensures.memory)

pub returns-in_err-say-clause-begun : goal.returns-in_err-say-clause-begun
returns-in_err-say-clause-begun g c =
    on_err c.from_residual-in_err-say.result (begun_one (WriteAside c.args.name.now c.args.bytes.now) c.in_ok-done.done _ _ c.in_ok-done.ensures.one)
