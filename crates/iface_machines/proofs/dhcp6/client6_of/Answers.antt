use Rattle.std.proofs.Common.{sym, ap, subst}
use Rattle.net_types.specs.NameText.{FitsName}
use Rattle.v6_items.specs.Bounds.{FitsAsks}
use Rattle.v6_client.specs.Settings.{SettingsContent}
use Rattle.iface_machines.proofs.Asks6.{asks_fit}
use Rattle.iface_machines.proofs.dhcp6.client6_of.Goals as goal

pub client6_new-requires-clause-asks : goal.client6_new-requires-clause-asks
client6_new-requires-clause-asks c =
    subst FitsAsks (sym (ap (λ (s : SettingsContent). s.asks) c.in_ok-set.ensures)) (asks_fit c.args.managed.now.conf.dhcp6 c.requires.managed.dhcp6)

pub client6_new-requires-clause-name : goal.client6_new-requires-clause-name
client6_new-requires-clause-name c = subst FitsName (sym (ap (λ (s : SettingsContent). s.site.iface.name) c.in_ok-set.ensures)) c.requires.managed.name
