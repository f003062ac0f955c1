use Rattle.std.proofs.Common.{◌≡◌, List, ◌++◌, length}
use Rattle.std.specs.Vec.Iter.{into_iter_items, into_iter_len}
use Rattle.item_judge.specs.declared.table.ItemTable.{ItemTable}
use Rattle.item_judge.specs.Judging.{AreTurned}
use Rattle.item_judge.proofs.judge.tables_turned.Given as goal

abbrev pub invariant-tables : goal.invariant-tables
invariant-tables l = record {
  turned : (rest : List ItemTable) → AreTurned l.turn (into_iter_items l.table-iterator) rest
      → AreTurned l.turn l.fn.tables.items (l.nexts.items ++ rest);
  count : into_iter_len l.table-iterator ≡ length (into_iter_items l.table-iterator);
}
