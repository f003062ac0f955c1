use Rattle.std.proofs.Common.{List, ◌∙◌, sym, ap}
use Rattle.std.specs.List.{list_any}
use Rattle.net_types.specs.declared.address.Net.{Net}
use Rattle.audit_words.specs.Shown.{site_shown}
use Rattle.lease6_evidence.specs.Replies6.{asks_at}
use Rattle.item_judge.specs.declared.table.ItemTable.{ItemTable}
use Rattle.item_judge.specs.Judging.{holds_address, is_given}
use Rattle.item_judge.proofs.Giving.{some_same}
use Rattle.item_judge.proofs.judge.ItemJudge.gives.Goals as goal

pub returns-in-V6 : goal.returns-in-V6
returns-in-V6 c = λ past tells.
    let site = site_shown c.args.site.now in
    c.some_holds.ensures
    ∙ ap (λ (ts : List ItemTable). list_any (λ table. holds_address table c.in-V6.net c.args.now) ts) c.deref.ensures.value
    ∙ some_same site c.args.now past c.in-V6.net c.args.self.now.tables.items (asks_at site) tells.tables
    ∙ ap (λ (n : Net). is_given site n c.args.now past) (sym c.in-V6.is)
