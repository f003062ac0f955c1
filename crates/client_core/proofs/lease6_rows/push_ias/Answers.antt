use Rattle.client_core.proofs.ItemRows.{ia_fits, ias_more}
use Rattle.client_core.proofs.lease6_rows.push_ias.Goals as goal

pub push_ia-requires-clause-fits : goal.push_ia-requires-clause-fits
push_ia-requires-clause-fits c = ia_fits c.args.ias.now c.loop-ia.ia-index c.ia-item.result c.loop-ia-test.true c.requires.fit c.ia-item.is

pub loop-ia-preserved : goal.loop-ia-preserved
loop-ia-preserved c =
    ias_more c.args.outlet c.args.shares.now c.args.rows.now c.loop-ia.rows c.push_ia.new.rows c.args.ias.now c.loop-ia.ia-index c.ia-item.result
    c.loop-ia-test.true c.ia-item.is c.loop-ia.invariant c.in_ok-push_ia.ensures
