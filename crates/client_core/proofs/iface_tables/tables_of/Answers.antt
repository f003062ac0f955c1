use Rattle.std.proofs.Common.{sym, subst, ap, ◌∙◌}
use Rattle.client_model.specs.Fitting.{FitsIface}
use Rattle.client_model.specs.WantedRows.{iface_rows}
use Rattle.client_core.proofs.Going.{place_more}
use Rattle.client_core.proofs.InPlace.{each_of}
use Rattle.client_core.proofs.iface_tables.tables_of.Goals as goal

pub rows_of-requires : goal.rows_of-requires
rows_of-requires c =
    (subst FitsIface (sym c.iface-item.is)
    (each_of FitsIface c.args.ifaces.now c.loop-iface.iface-index c.iface-item.result c.loop-iface-test.true c.requires)).managed

pub loop-iface-preserved : goal.loop-iface-preserved
loop-iface-preserved c =
    place_more c.args.ifaces.now c.loop-iface.iface-index c.iface-item.result c.loop-iface.tables c.push.new.self c.in_ok-rows.rows c.loop-iface-test.true
    c.loop-iface.invariant c.in_ok-push.ensures.grown (c.in_ok-rows.ensures ∙ ap iface_rows c.iface-item.is)
