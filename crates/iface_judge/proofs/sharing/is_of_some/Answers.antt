use Rattle.std.proofs.Common.{◌≡◌, ◌+◌, ◌<◌, ◌≤◌, Bool, List, refl, sym, ap, ◌∙◌, arith}
use Rattle.audit_words.specs.Shown.{site_shown}
use Rattle.share_judge.specs.declared.prefix.HeldPrefix.{HeldPrefix}
use Rattle.iface_judge.specs.HeardShares.{is_of}
use Rattle.iface_judge.proofs.ShareLoops.{len_found, len_none, len_step}
use Rattle.iface_judge.proofs.sharing.is_of_some.Goals as goal

pub loop-len-init : goal.loop-len-init
loop-len-init c = record { most = omega arith; none = λ past at told. refl }

pub returns-then-is_of : goal.returns-then-is_of
returns-then-is_of c = λ past at told.
    let site = site_shown c.args.upstream.now in
    let here = sym (ap (λ (held : HeldPrefix). is_of site c.args.index c.args.net past held) c.prefix_by-held.ensures)
    ∙ sym (c.is_of.ensures past at told) ∙ c.if-is_of.true in
    sym (len_found site c.args.index c.args.net past c.args.share.now c.loop-len.len c.loop-len-test.true here)

pub loop-len-preserved : goal.loop-len-preserved
loop-len-preserved c = record {
  most = omega (arith, c.loop-len-test.true);
  none = λ past at told.
      let site = site_shown c.args.upstream.now in
      let not_here = sym (ap (λ (held : HeldPrefix). is_of site c.args.index c.args.net past held) c.prefix_by-held.ensures)
      ∙ sym (c.is_of.ensures past at told) ∙ c.if-is_of.false in
      len_step site c.args.index c.args.net past c.args.share.now c.loop-len.len not_here (c.loop-len.invariant.none past at told);
}

pub returns : goal.returns
returns c = λ past at told.
    sym
    (len_none (site_shown c.args.upstream.now) c.args.index c.args.net past c.args.share.now c.loop-len.len c.loop-len-test.false
    c.loop-len.invariant.most (c.loop-len.invariant.none past at told))
