-- What the DHCPv4 client of an interface is told to say and to want (RFC 2132).
use Rattle.std.specs.Prelude.{ℕ, ◌<◌, List, length}
use Rattle.net_types.specs.declared.address.Net4.{Net4}
use Rattle.settings.specs.declared.dhcp4_conf.Identifier.{Identifier}
use Rattle.settings.specs.declared.dhcp4_conf.Identifier.TheVariants as said

-- option 61: the hardware address, these bytes, or the DUID of the host after the interface's index
pub data IdentifierContent : Type 0 where
  Hardware : IdentifierContent
  Bytes : (bytes : List ℕ) → IdentifierContent
  Duid : IdentifierContent

abbrev pub identifier_in : Identifier → IdentifierContent
identifier_in said.Hardware = Hardware
identifier_in (said.Bytes bytes) = Bytes bytes.items
identifier_in said.Duid = Duid

pub record Dhcp4Settings : Type 0 where
  -- option 12, and option 60: not sent where empty
  pub host : List ℕ
  pub vendor : List ℕ
  -- option 61
  pub identifier : IdentifierContent
  -- codes asked for beside those that always are, codes neither asked for nor taken, and codes without which nothing is
  -- taken
  pub asked : List ℕ
  pub refused : List ℕ
  pub required : List ℕ
  -- networks of servers that aren't listened to
  pub blacklist : List Net4

abbrev pub dhcp4_settings : (host vendor : List ℕ) → Identifier → (asked refused required : List ℕ) → List Net4
    → Dhcp4Settings
dhcp4_settings host vendor identifier asked refused required blacklist = record {
  host = host;
  vendor = vendor;
  identifier = identifier_in identifier;
  asked = asked;
  refused = refused;
  required = required;
  blacklist = blacklist;
}

abbrev pub FitsIdentifier : IdentifierContent → Type 0
FitsIdentifier Hardware = Unit {0}
FitsIdentifier (Bytes bytes) = length bytes < 256
FitsIdentifier Duid = Unit {0}

-- each text fits an option, whose length is one byte
pub record FitsDhcp4 (settings : Dhcp4Settings) : Type 0 where
  pub host : length settings.host < 256
  pub vendor : length settings.vendor < 256
  pub identifier : FitsIdentifier settings.identifier
