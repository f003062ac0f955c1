-- What the DHCPv6 client of an interface is told by the configuration, and whether it runs. `duid` is the DUID of the
-- host.
use Rattle.std.specs.Prelude.{ℕ, Bool, true, false, not, ◌&&◌, ◌||◌, List, [], ◌∷◌, map}
use Rattle.std.specs.List.{list_any}
use Rattle.v6_client.specs.V6Items.declared.asks.IaAsk.{IaAsk}
use Rattle.v6_client.specs.declared.setup.Site6.{Site6}
use Rattle.v6_client.specs.Settings.{SettingsContent}
use Rattle.settings.specs.declared.dhcp6_conf.IaConf.{IaConf}
use Rattle.settings.specs.declared.interfaces.IfConf.{IfConf}
use Rattle.settings.specs.declared.interfaces.Managed.{Managed}
use Rattle.settings.specs.Dhcp4Settings.{IdentifierContent, Hardware, Bytes, Duid}
use Rattle.client_model.specs.ClientSettings.{runs_dhcp4}

abbrev pub asks_some : List IaConf → Bool
asks_some [] = false
asks_some (ia ∷ ias) = true

-- DHCPv6 runs where an IA is asked for, unless it is forbidden.
abbrev pub runs_dhcp6 : IfConf → Bool
runs_dhcp6 conf = asks_some conf.dhcp6.ias && not conf.flags.nodhcp6 && not conf.flags.ipv4only

abbrev pub ask_for : IaConf → IaAsk
ask_for ia = record { kind = ia.kind; iaid = ia.iaid; hint = ia.hint }

abbrev pub site6_of : Managed → Site6
site6_of managed = record { iface = managed.spec; flags = managed.conf.flags; rapid = managed.conf.dhcp6.rapid }

abbrev pub settings6_of : (duid : List ℕ) → Managed → SettingsContent
settings6_of duid managed = record { site = site6_of managed; duid = duid; asks = map ask_for managed.conf.dhcp6.ias }

-- ---- who is known by the DUID

abbrev pub is_by_duid : IdentifierContent → Bool
is_by_duid Hardware = false
is_by_duid (Bytes bytes) = false
is_by_duid Duid = true

-- the DUID tells an interface's clients apart: its DHCPv6 client always, its DHCPv4 client where that is configured
abbrev pub needs_duid : Managed → Bool
needs_duid managed = runs_dhcp6 managed.conf || (runs_dhcp4 managed.conf && is_by_duid managed.conf.dhcp4.identifier)

abbrev pub some_need_duid : List Managed → Bool
some_need_duid managed = list_any needs_duid managed
