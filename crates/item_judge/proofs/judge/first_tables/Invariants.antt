use Rattle.std.proofs.Common.{List, [], ◌++◌, drop, map}
use Rattle.evidence_words.specs.ClientModel.ClientSettings6.{ask_for}
use Rattle.evidence_words.specs.Inputs.{Site}
use Rattle.item_judge.specs.declared.table.ItemTable.{ItemTable}
use Rattle.item_judge.specs.Judging.{TellsTables}
use Rattle.item_judge.proofs.judge.first_tables.Given as goal

abbrev pub invariant-confs : goal.invariant-confs
invariant-confs l =
    (site : Site) (rest : List ItemTable) → TellsTables site [] rest (map ask_for (drop l.conf-index l.confs))
    → TellsTables site [] (l.tables.items ++ rest) (map ask_for l.confs)
