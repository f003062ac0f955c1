use Rattle.std.proofs.Common.{◌≡◌, ◌++◌, take}
use Rattle.std.specs.Prelude.{flat_map}
use Rattle.client_model.specs.WantedRows.{share_rows}
use Rattle.client_core.proofs.share_rows.push_shares.Given as goal

abbrev pub invariant-loop-share : goal.invariant-loop-share
invariant-loop-share l = l.rows ≡ l.initial.rows ++ flat_map (share_rows l.prefix) (take l.share-index l.shares)
