use Rattle.std.proofs.Common.{List, Option, subst, sym}
use Rattle.std.specs.Prelude.{IfSome}
use Rattle.world.specs.declared.rows.HostRow.{HostRow}
use Rattle.host_model.specs.HostTable.{InRowOrder}
use Rattle.device_calls.specs.Calls.{ListRows}
use Rattle.device_calls.specs.Does.{One}
use Rattle.device_calls.proofs.Doing.{does_one}
use Rattle.life_devices.specs.Answered.{rows_in, rows_listed}
use Rattle.life_asks.proofs.HostSteps.{listed_in_order}
use Rattle.device_calls.specs.Programs.{Done, Then}
use Rattle.device_calls.proofs.Begun.{begun_none, begun_one}
use Rattle.life_devices.proofs.Begins.{on_err}
use Rattle.life_asks.proofs.hosts.list.Goals as goal

pub returns-clause-does : goal.returns-clause-does
returns-clause-does g c =
    does_one ListRows (rows_in c.in_ok-rows.rows) _ _ _ _
    (subst (λ (rows : Option (List HostRow)). One ListRows rows (g.W.Outside.seen c.args.outside.now) (g.W.Outside.seen c.list.new.self))
    (sym c.in_ok-rows.ensures) c.in_ok-listed.ensures.one)
    c.in_ok-say_listing.ensures

pub returns-clause-in_order : goal.returns-clause-in_order
returns-clause-in_order g c =
    subst (λ (rows : Option (List HostRow)). IfSome rows InRowOrder) (sym c.in_ok-rows.ensures) (listed_in_order c.in_ok-listed.listed)

pub returns-in_err-listed-clause-begun : goal.returns-in_err-listed-clause-begun
returns-in_err-listed-clause-begun g c =
    on_err c.from_residual.result (begun_none (Then ListRows Done) _ _ c.in_err-listed.ensures.memory)

pub returns-in_err-rows-clause-begun : goal.returns-in_err-rows-clause-begun
returns-in_err-rows-clause-begun g c =
    on_err c.from_residual-in_err-rows.result (begun_one ListRows (rows_listed c.in_ok-listed.listed) _ _ c.in_ok-listed.ensures.one)

pub returns-in_err-say_listing-clause-begun : goal.returns-in_err-say_listing-clause-begun
returns-in_err-say_listing-clause-begun g c =
    on_err c.from_residual-in_err-say_listing.result (begun_one ListRows (rows_listed c.in_ok-listed.listed) _ _ c.in_ok-listed.ensures.one)
