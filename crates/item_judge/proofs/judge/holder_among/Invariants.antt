use Rattle.std.proofs.Common.{◌≡◌, drop}
use Rattle.item_judge.specs.Hearing.{holder_among}
use Rattle.item_judge.proofs.judge.holder_among.Given as goal

abbrev pub invariant-tables : goal.invariant-tables
invariant-tables l = holder_among (drop l.table-index l.tables) l.net l.now ≡ holder_among l.tables l.net l.now
