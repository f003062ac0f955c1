use Rattle.device_calls.specs.Calls.{ListAsides}
use Rattle.device_calls.proofs.Doing.{does_one}
use Rattle.life_devices.specs.Answered.{names_of}
use Rattle.device_calls.specs.Programs.{Done, Then}
use Rattle.device_calls.proofs.Begun.{begun_none, begun_one}
use Rattle.life_devices.proofs.Begins.{on_err}
use Rattle.life_files.proofs.stores.list.Goals as goal

pub returns-clause-does : goal.returns-clause-does
returns-clause-does g c = does_one ListAsides (names_of c.in_ok-listed.listed) _ _ _ _ c.in_ok-listed.ensures.one c.in_ok-say_listing.ensures

pub returns-in_err-listed-clause-begun : goal.returns-in_err-listed-clause-begun
returns-in_err-listed-clause-begun g c =
    on_err c.from_residual.result (begun_none (Then ListAsides Done) _ _ c.in_err-listed.ensures.memory)

pub returns-in_err-say_listing-clause-begun : goal.returns-in_err-say_listing-clause-begun
returns-in_err-say_listing-clause-begun g c =
    on_err c.from_residual-in_err-say_listing.result (begun_one ListAsides (names_of c.in_ok-listed.listed) _ _ c.in_ok-listed.ensures.one)
