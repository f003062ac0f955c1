use Rattle.std.proofs.Common.{◌≡◌, List, sym, ap, ◌∙◌}
use Rattle.std.specs.List.{list_any}
use Rattle.net_types.specs.declared.address.Net.{Net}
use Rattle.settings.specs.declared.dhcp6_conf.ShareConf.{ShareConf}
use Rattle.audit_words.specs.Shown.{site_shown}
use Rattle.audit_words.specs.declared.shown.Site.{Site}
use Rattle.iface_judge.specs.HeardShares.{is_heard_share, is_of_some}
use Rattle.iface_judge.proofs.sharing.is_heard_share.Goals as goal

pub returns-in-V6 : goal.returns-in-V6
returns-in-V6 c = λ past at told.
    let site = site_shown c.args.upstream.now in
    let same = c.deref.ensures.value ∙ ap (λ (upstream : Site). upstream.managed.conf.dhcp6.shares) c.upstream.view_is in
    c.some_share.ensures past at told
    ∙ ap (λ (shares : List ShareConf). list_any (λ share. is_of_some site c.args.index c.in-V6.net past share 128) shares) same
    ∙ ap (λ (n : Net). is_heard_share site c.args.index n past) (sym c.in-V6.is)
