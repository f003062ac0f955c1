use Rattle.std.proofs.Common.{List, sym, subst, ◌∙◌}
use Rattle.std.specs.List.{AllByRecursion}
use Rattle.settings.specs.declared.dhcp6_conf.ShareConf.{ShareConf}
use Rattle.settings.specs.Dhcp6Settings.{FitsShareConf}
use Rattle.iface_core.proofs.ShareAddresses.{own_shares_fit}
use Rattle.client_core.proofs.lease6_rows.push_ia.Goals as goal

pub push_items-requires-clause-shares : goal.push_items-requires-clause-shares
push_items-requires-clause-shares c =
    subst (λ (shares : List ShareConf). AllByRecursion FitsShareConf shares) (sym (c.deref.ensures.value ∙ c.in_ok-own.ensures))
    (own_shares_fit c.args.ia.now.iaid c.args.shares.now c.requires.shares)
