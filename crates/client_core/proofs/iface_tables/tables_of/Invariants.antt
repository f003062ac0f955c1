use Rattle.std.proofs.Common.{◌≡◌, map, take}
use Rattle.client_model.specs.WantedRows.{iface_rows}
use Rattle.client_core.proofs.iface_tables.tables_of.Given as goal

abbrev pub invariant-loop-iface : goal.invariant-loop-iface
invariant-loop-iface l = l.tables ≡ map iface_rows (take l.iface-index l.ifaces)
