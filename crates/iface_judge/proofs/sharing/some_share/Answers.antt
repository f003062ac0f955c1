use Rattle.std.proofs.Common.{◌≡◌, Bool, sym, ◌∙◌}
use Rattle.std.proofs.lemmas.List.Folds.{list_any_at}
use Rattle.settings.specs.declared.dhcp6_conf.ShareConf.{ShareConf}
use Rattle.audit_words.specs.Shown.{site_shown}
use Rattle.iface_judge.specs.HeardShares.{is_of_some}
use Rattle.iface_judge.proofs.ShareLoops.{any_less}
use Rattle.iface_judge.proofs.sharing.some_share.Goals as goal

pub returns-then-is_of_some : goal.returns-then-is_of_some
returns-then-is_of_some c = λ past at told.
    let test : ShareConf → Bool = λ share. is_of_some (site_shown c.args.upstream.now) c.args.index c.args.net past share 128 in
    sym
    (list_any_at test c.args.shares.now c.loop-share.share-index _ c.loop-share-test.true
    (sym (c.is_of_some.ensures past at told) ∙ c.if-is_of_some.true))

pub loop-share-preserved : goal.loop-share-preserved
loop-share-preserved c = λ past at told.
    let test : ShareConf → Bool = λ share. is_of_some (site_shown c.args.upstream.now) c.args.index c.args.net past share 128 in
    c.loop-share.invariant past at told
    ∙ any_less test c.args.shares.now c.loop-share.share-index _ c.loop-share-test.true
    (sym (c.is_of_some.ensures past at told) ∙ c.if-is_of_some.false)
