-- What the DHCPv4 client of an interface is told by the configuration, and whether it runs. `duid` is the DUID of the
-- host.
use Rattle.std.specs.Prelude.{ℕ, Bool, not, ◌&&◌, if◌then◌else◌, List, [], ◌∷◌, ◌++◌, filter, take, is_none}
use Rattle.std.specs.Int.{w32, to_be_bytes}
use Rattle.net_types.specs.declared.interface.IfSpec.{IfSpec}
use Rattle.v4_client.specs.V4Message.Requests.{AskContent}
use Rattle.v4_client.specs.declared.setup.Site4.{Site4}
use Rattle.v4_client.specs.Messages.{is_among}
use Rattle.v4_client.specs.Settings.{SettingsContent}
use Rattle.settings.specs.declared.interfaces.IfConf.{IfConf}
use Rattle.settings.specs.declared.interfaces.Managed.{Managed}
use Rattle.settings.specs.Dhcp4Settings.{IdentifierContent, Hardware, Bytes, Duid}
use Rattle.client_model.specs.declared.asking.TheConstants.{BY_DUID, ETHERNET}
use Rattle.v4_options.specs.declared.code.TheConstants.{SUBNET_MASK, CLASSLESS_ROUTES, ROUTERS, DOMAIN_NAME_SERVERS, DOMAIN_NAME, BROADCAST_ADDRESS, LEASE_TIME, SERVER_IDENTIFIER, RENEWAL_TIME, REBINDING_TIME, DOMAIN_SEARCH}

-- DHCPv4 runs where it isn't forbidden and no static address is given.
abbrev pub runs_dhcp4 : IfConf → Bool
runs_dhcp4 conf = not conf.flags.nodhcp && not conf.flags.ipv6only && is_none conf.address

-- ---- what the client asks for

-- the codes that every client asks for, in order (RFC 2132, section 9.8; RFC 3442 wants classless routes before
-- routers)
abbrev pub wanted_codes : List ℕ
wanted_codes =
    SUBNET_MASK ∷ CLASSLESS_ROUTES ∷ ROUTERS ∷ DOMAIN_NAME_SERVERS ∷ DOMAIN_NAME ∷ BROADCAST_ADDRESS
    ∷ LEASE_TIME ∷ SERVER_IDENTIFIER ∷ RENEWAL_TIME ∷ REBINDING_TIME ∷ DOMAIN_SEARCH ∷ []

-- codes, each at its first place, without those that came before
abbrev pub each_once : (before : List ℕ) → List ℕ → List ℕ
each_once before [] = []
each_once before (code ∷ codes) =
    if is_among before code then each_once before codes else code ∷ each_once (code ∷ before) codes

-- the most codes that are asked for
abbrev pub most_codes : ℕ
most_codes = 64

-- these, and those that are configured, without those that are refused
unfoldable pub codes_of : (asked refused : List ℕ) → List ℕ
codes_of asked refused =
    take most_codes (filter (λ code. not (is_among refused code)) (each_once [] (wanted_codes ++ asked)))

-- The client is known by its hardware address (RFC 2132, section 9.14), by what is configured, or by the DUID, with the
-- interface's index as IAID (RFC 4361, section 6.1).
abbrev pub identifier_by : (duid : List ℕ) → IfSpec → IdentifierContent → List ℕ
identifier_by duid spec Hardware = ETHERNET ∷ spec.mac.bytes
identifier_by duid spec (Bytes bytes) = bytes
identifier_by duid spec Duid = BY_DUID ∷ (to_be_bytes w32 spec.index.number ++ duid)

abbrev pub ask_of : (duid : List ℕ) → Managed → AskContent
ask_of duid managed = record {
  client_id = identifier_by duid managed.spec managed.conf.dhcp4.identifier;
  vendor = managed.conf.dhcp4.vendor;
  host = managed.conf.dhcp4.host;
  list = codes_of managed.conf.dhcp4.asked managed.conf.dhcp4.refused;
}

abbrev pub site_of : Managed → Site4
site_of managed = record { iface = managed.spec; flags = managed.conf.flags; times = managed.conf.times }

abbrev pub settings_of : (duid : List ℕ) → Managed → SettingsContent
settings_of duid managed = record {
  site = site_of managed;
  ask = ask_of duid managed;
  required = managed.conf.dhcp4.required;
  refused = managed.conf.dhcp4.refused;
  blacklist = managed.conf.dhcp4.blacklist;
}
