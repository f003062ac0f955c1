use Rattle.std.proofs.Common.{sym, ap, subst}
use Rattle.net_types.specs.NameText.{FitsName}
use Rattle.v4_message.specs.Requests.{AskFits}
use Rattle.v4_client.specs.Settings.{SettingsContent}
use Rattle.client_model.proofs.AskFitting.{ask_fits}
use Rattle.iface_machines.proofs.dhcp4.client_of.Goals as goal

pub client4_new-requires-clause-ask : goal.client4_new-requires-clause-ask
client4_new-requires-clause-ask c =
    subst AskFits (sym (ap (λ (s : SettingsContent). s.ask) c.in_ok-set.ensures))
    (ask_fits c.args.duid.now.bytes.items c.args.managed.now c.requires.duid c.requires.managed)

pub client4_new-requires-clause-name : goal.client4_new-requires-clause-name
client4_new-requires-clause-name c = subst FitsName (sym (ap (λ (s : SettingsContent). s.site.iface.name) c.in_ok-set.ensures)) c.requires.managed.name
