use Rattle.audit_words.specs.Shown.{entry_shown, site_shown}
use Rattle.kept_judge.proofs.Spoken.{turned_tells6}
use Rattle.kept_judge.proofs.standing.Kept6.turned.Goals as goal

pub returns : goal.returns
returns c = λ past said replied told.
    turned_tells6 (site_shown c.args.site.now) (entry_shown c.args.entry.now) past c.index.result c.args.messages.now c.args.replied c.args.self
    c.after.result c.index.ensures c.after.ensures said replied told
