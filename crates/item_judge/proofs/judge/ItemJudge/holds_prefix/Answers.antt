use Rattle.std.proofs.Common.{List, ◌∙◌, ap}
use Rattle.std.specs.List.{list_any}
use Rattle.audit_words.specs.Shown.{site_shown}
use Rattle.lease6_evidence.specs.Replies6.{asks_at}
use Rattle.item_judge.specs.declared.table.ItemTable.{ItemTable}
use Rattle.item_judge.specs.Judging.{holds_prefix}
use Rattle.item_judge.proofs.Giving.{all_same}
use Rattle.item_judge.proofs.judge.ItemJudge.holds_prefix.Goals as goal

pub returns : goal.returns
returns c = λ past tells.
    let site = site_shown c.args.site.now in
    c.some_delegates.ensures
    ∙ ap (λ (ts : List ItemTable). list_any (λ table. holds_prefix table c.args.iaid c.args.prefix c.args.now) ts) c.deref.ensures.value
    ∙ all_same site c.args.iaid c.args.now past c.args.prefix c.args.self.now.tables.items (asks_at site) tells.tables
