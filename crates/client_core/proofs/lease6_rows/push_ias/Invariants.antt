use Rattle.std.proofs.Common.{◌≡◌, ◌++◌, take}
use Rattle.std.specs.Prelude.{flat_map}
use Rattle.lease6_text.specs.Leases.{ias_content}
use Rattle.client_model.specs.WantedRows.{ia_rows}
use Rattle.client_core.proofs.lease6_rows.push_ias.Given as goal

abbrev pub invariant-loop-ia : goal.invariant-loop-ia
invariant-loop-ia l = l.rows ≡ l.initial.rows ++ flat_map (ia_rows l.outlet l.shares) (ias_content (take l.ia-index l.ias))
