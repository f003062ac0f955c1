use Rattle.std.proofs.Common.{Option, ◌∙◌, ap}
use Rattle.std.specs.Option.{option_map}
use Rattle.v6_message.specs.Replies.{Content6}
use Rattle.audit_words.specs.Shown.{entry_shown, site_shown}
use Rattle.item_judge.specs.Asking.{heard_by}
use Rattle.item_judge.specs.Kept.{asking_content}
use Rattle.item_judge.proofs.HearingTold.{hears_so}
use Rattle.item_judge.proofs.judge.ItemJudge.hears.Goals as goal
use Rattle.std.proofs.lemmas.Result.{IfOk-weaker}

pub returns : goal.returns
returns c =
    let site = site_shown c.args.site.now in
    let asking = option_map asking_content c.args.self.now.asking in
    IfOk-weaker c.gives_alone.result _ _
    (λ gives is past tells.
    is ∙ hears_so site (entry_shown c.args.entry.now) past c.args.ask c.args.net c.args.now asking c.in_ok-heard.heard tells.asking
    (c.in_ok-heard.ensures ∙ ap (λ (came : Option Content6). heard_by site asking came) c.message6_at.ensures))
    c.gives_alone.ensures
