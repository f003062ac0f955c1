use Rattle.std.proofs.Common.{List, ◌∙◌, ap}
use Rattle.lease6_evidence.specs.Replies6.{asks_at}
use Rattle.item_judge.specs.Hearing.{holder_among}
use Rattle.item_judge.specs.declared.table.ItemTable.{ItemTable}
use Rattle.item_judge.proofs.HearingTold.{holder_same}
use Rattle.item_judge.proofs.judge.ItemJudge.holder.Goals as goal

pub returns : goal.returns
returns c = λ site past tells.
    c.holder_among.ensures
    ∙ ap (λ (ts : List ItemTable). holder_among ts c.args.net c.args.now) c.deref.ensures.value
    ∙ holder_same site c.args.net c.args.now past c.args.self.now.tables.items (asks_at site) tells.tables
