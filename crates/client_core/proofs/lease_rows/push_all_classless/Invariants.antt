use Rattle.std.proofs.Common.{◌≡◌, ◌++◌, take}
use Rattle.std.specs.Prelude.{flat_map}
use Rattle.client_model.specs.WantedRows.{classless_rows}
use Rattle.client_core.proofs.lease_rows.push_all_classless.Given as goal

abbrev pub invariant-loop-route : goal.invariant-loop-route
invariant-loop-route l = l.rows ≡ l.initial.rows ++ flat_map (classless_rows l.outlet l.net) (take l.route-index l.routes)
