use Rattle.std.proofs.Common.{Option, ◌∙◌, ap}
use Rattle.std.specs.Option.{option_map}
use Rattle.v6_message.specs.Replies.{Content6}
use Rattle.audit_words.specs.Shown.{entry_shown, site_shown}
use Rattle.lease6_evidence.specs.Replies6.{message6_at}
use Rattle.item_judge.specs.Asking.{heard_by}
use Rattle.item_judge.specs.Kept.{asking_content}
use Rattle.item_judge.proofs.Replied.{reply_so}
use Rattle.item_judge.proofs.judge.ItemJudge.has_reply.Goals as goal

pub returns : goal.returns
returns c = λ past tells.
    let site = site_shown c.args.site.now in
    let asking = option_map asking_content c.args.self.now.asking in
    c.is_some.ensures
    ∙ reply_so site past asking (message6_at site (entry_shown c.args.entry.now)) c.in_ok-heard.heard tells.asking
    (c.in_ok-heard.ensures ∙ ap (λ (came : Option Content6). heard_by site asking came) c.message6_at.ensures)
