use Rattle.std.proofs.Common.{◌∙◌, ap}
use Rattle.v6_message.specs.Shown.{message_shown}
use Rattle.lease6_judge.specs.HeardTerms.{items_heard}
use Rattle.lease6_judge.specs.Terms.{Term, longer, term_in_saids}
use Rattle.item_judge.specs.Tables.{term_at}
use Rattle.item_judge.proofs.Walked.{all_at_once}
use Rattle.item_judge.proofs.table.hear_one.Goals as goal

pub returns : goal.returns
returns c = λ net.
    let saids = items_heard c.args.ask (message_shown c.args.heard.now.message) in
    c.in_ok-hold_all.ensures net
    ∙ all_at_once c.args.came net saids (term_at c.revise.new.terms net)
    ∙ ap (λ (t : Term). longer (term_in_saids c.args.came net saids) t) (c.in_ok-revise.ensures net)
