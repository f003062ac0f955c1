use Rattle.audit_words.specs.Shown.{entry_shown, site_shown}
use Rattle.iface_judge.proofs.Staying.{local_on}
use Rattle.iface_judge.proofs.judge.IfaceJudgeJudge.turned.Goals as goal

pub returns : goal.returns
returns c = λ past tells.
    let lease = c.in_ok-lease.ensures past tells.lease in
    let items = c.in_ok-items.ensures past tells.items in
    record {
      statics = c.turned-4.ensures past tells.statics;
      local =
          local_on c.args.self.local c.in_ok-local.local (site_shown c.args.site.now) (entry_shown c.args.entry.now) past c.in_ok-local.ensures
          tells.local;
      lease = lease;
      items = items;
      kept4 = c.in_ok-kept4.ensures past lease tells.kept4;
      kept6 = c.in_ok-kept6.ensures past items tells.kept6;
      settled = c.in_ok-settled.ensures;
    }
