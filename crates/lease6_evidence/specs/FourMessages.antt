-- An example: an interface solicits, is advertised 2001:db8::7 and 2001:db8:0:100::/56, requests them, and holds them
-- for an hour. Another interface has a share of the prefix.
use Rattle.std.specs.Prelude.{ℕ, true, false, List, [], ◌∷◌, ◌++◌, None, Some}
use Rattle.net_types.specs.declared.address.Net6.{Net6}
use Rattle.net_types.specs.declared.interface.IfIndex.{IfIndex}
use Rattle.lease_evidence.specs.DuidText.DuidTexts.{link_layer_duid}
use Rattle.v6_options.specs.declared.ia.IaKind.TheVariants.{Na, Pd}
use Rattle.lease6_text.specs.declared.lease.Item6.{Item6}
use Rattle.lease6_text.specs.Leases.{IaLeaseContent, Lease6Content}
use Rattle.world.specs.declared.wakes.Event.{Event}
use Rattle.world.specs.declared.wakes.Event.TheVariants.{Frame, Quiet}
use Rattle.settings.specs.declared.dhcp6_conf.ShareConf.{ShareConf}
use Rattle.settings.specs.declared.interfaces.Managed.{Managed}
use Rattle.settings.specs.Flags.{no_flags}
use Rattle.lease_evidence.specs.ClientModel.KeptLeases.{Beginning}
use Rattle.lease_evidence.specs.EvidenceWords.Entries.{Offer}
use Rattle.lease_evidence.specs.EvidenceWords.IfaceLives.{Opening, Met}
use Rattle.lease_evidence.specs.PlainIface.{client_mac, plain_eth0}

-- the other interface, eth1
abbrev pub downstream : IfIndex
downstream = record { number = 2 }

-- it gets the subnet 1 of 64 bits
abbrev pub share : ShareConf
share = record {
  iaid = 2;
  share = record {
    name = record { bytes = 101 ∷ 116 ∷ 104 ∷ 49 ∷ 0 ∷ 0 ∷ 0 ∷ 0 ∷ 0 ∷ 0 ∷ 0 ∷ 0 ∷ 0 ∷ 0 ∷ 0 ∷ []; len = 4 };
    sla = 1;
    len = 64;
    hint = 0;
  };
  outlet = record { iface = downstream; metric = 0 };
}

-- eth0, with an IA_NA, an IA_PD and `nodelay`, and neither DHCPv4 nor a link-local address
abbrev pub interface : Managed
interface = record plain_eth0 {
  conf = record plain_eth0.conf {
    flags = record no_flags { nodhcp = true; noipv4ll = true; nodelay = true };
    dhcp6 = record {
      rapid = false;
      ias = record { kind = Na; iaid = 1; hint = 0 } ∷ record { kind = Pd; iaid = 2; hint = 0 } ∷ [];
      shares = share ∷ [];
    };
  };
}

-- the DUID of the host, made of the interface's hardware address
abbrev pub duid : List ℕ
duid = link_layer_duid client_mac

abbrev pub granted : Net6
granted = record { ip = record { number = 0x2001_0db8_0000_0000_0000_0000_0000_0007 }; len = 128 }

abbrev pub delegated : Net6
delegated = record { ip = record { number = 0x2001_0db8_0000_0100_0000_0000_0000_0000 }; len = 56 }

-- ---- headers: Ethernet, IPv6 from one link-local address to another or to ff02::1:2, and UDP

abbrev pub client_address : List ℕ
client_address = 0xfe ∷ 0x80 ∷ 0 ∷ 0 ∷ 0 ∷ 0 ∷ 0 ∷ 0 ∷ 0 ∷ 0 ∷ 0 ∷ 0xff ∷ 0xfe ∷ 0 ∷ 0 ∷ 1 ∷ []

abbrev pub server_address : List ℕ
server_address = 0xfe ∷ 0x80 ∷ 0 ∷ 0 ∷ 0 ∷ 0 ∷ 0 ∷ 0 ∷ 0 ∷ 0 ∷ 0 ∷ 0xff ∷ 0xfe ∷ 0 ∷ 0 ∷ 9 ∷ []

abbrev pub servers_address : List ℕ
servers_address = 0xff ∷ 2 ∷ 0 ∷ 0 ∷ 0 ∷ 0 ∷ 0 ∷ 0 ∷ 0 ∷ 0 ∷ 0 ∷ 0 ∷ 0 ∷ 1 ∷ 0 ∷ 2 ∷ []

-- a message of the client, of so many bytes with UDP's header, and the checksum's two bytes
abbrev pub from_client : (len high low : ℕ) → (message : List ℕ) → List ℕ
from_client len high low message =
    (0x33 ∷ 0x33 ∷ 0 ∷ 1 ∷ 0 ∷ 2 ∷ 2 ∷ 0 ∷ 0 ∷ 0 ∷ 0 ∷ 1 ∷ 0x86 ∷ 0xdd ∷ [])
    ++ (0x60 ∷ 0 ∷ 0 ∷ 0 ∷ 0 ∷ len ∷ 17 ∷ 64 ∷ [])
    ++ client_address ++ servers_address ++ (2 ∷ 0x22 ∷ 2 ∷ 0x23 ∷ 0 ∷ len ∷ high ∷ low ∷ []) ++ message

-- so one of the server
abbrev pub from_server : (len high low : ℕ) → (message : List ℕ) → List ℕ
from_server len high low message =
    (2 ∷ 0 ∷ 0 ∷ 0 ∷ 0 ∷ 1 ∷ 2 ∷ 0 ∷ 0 ∷ 0 ∷ 0 ∷ 9 ∷ 0x86 ∷ 0xdd ∷ []) ++ (0x60 ∷ 0 ∷ 0 ∷ 0 ∷ 0 ∷ len ∷ 17 ∷ 64 ∷ [])
    ++ server_address ++ client_address ++ (2 ∷ 0x23 ∷ 2 ∷ 0x22 ∷ 0 ∷ len ∷ high ∷ low ∷ []) ++ message

-- ---- options

abbrev pub client_option : List ℕ
client_option = 0 ∷ 1 ∷ 0 ∷ 10 ∷ 0 ∷ 3 ∷ 0 ∷ 1 ∷ 2 ∷ 0 ∷ 0 ∷ 0 ∷ 0 ∷ 1 ∷ []

abbrev pub server_option : List ℕ
server_option = 0 ∷ 2 ∷ 0 ∷ 10 ∷ 0 ∷ 3 ∷ 0 ∷ 1 ∷ 2 ∷ 0 ∷ 0 ∷ 0 ∷ 0 ∷ 9 ∷ []

abbrev pub elapsed_option : List ℕ
elapsed_option = 0 ∷ 8 ∷ 0 ∷ 2 ∷ 0 ∷ 0 ∷ []

-- DNS servers, search domains, and the longest time between two SOLICITs
abbrev pub wanted_option : List ℕ
wanted_option = 0 ∷ 6 ∷ 0 ∷ 6 ∷ 0 ∷ 23 ∷ 0 ∷ 24 ∷ 0 ∷ 82 ∷ []

-- the addresses of the IA_NA, with their length, and what the client leaves to the server
abbrev pub addresses_asked : (len : ℕ) → (items : List ℕ) → List ℕ
addresses_asked len items = (0 ∷ 3 ∷ 0 ∷ len ∷ 0 ∷ 0 ∷ 0 ∷ 1 ∷ 0 ∷ 0 ∷ 0 ∷ 0 ∷ 0 ∷ 0 ∷ 0 ∷ 0 ∷ []) ++ items

-- so the prefixes of the IA_PD
abbrev pub prefixes_asked : (len : ℕ) → (items : List ℕ) → List ℕ
prefixes_asked len items = (0 ∷ 25 ∷ 0 ∷ len ∷ 0 ∷ 0 ∷ 0 ∷ 2 ∷ 0 ∷ 0 ∷ 0 ∷ 0 ∷ 0 ∷ 0 ∷ 0 ∷ 0 ∷ []) ++ items

abbrev pub address_option : (times : List ℕ) → List ℕ
address_option times =
    (0 ∷ 5 ∷ 0 ∷ 24 ∷ 0x20 ∷ 1 ∷ 0x0d ∷ 0xb8 ∷ 0 ∷ 0 ∷ 0 ∷ 0 ∷ 0 ∷ 0 ∷ 0 ∷ 0 ∷ 0 ∷ 0 ∷ 0 ∷ 7 ∷ []) ++ times

abbrev pub prefix_option : (times : List ℕ) → List ℕ
prefix_option times =
    (0 ∷ 26 ∷ 0 ∷ 25 ∷ []) ++ times
    ++ (56 ∷ 0x20 ∷ 1 ∷ 0x0d ∷ 0xb8 ∷ 0 ∷ 0 ∷ 1 ∷ 0 ∷ 0 ∷ 0 ∷ 0 ∷ 0 ∷ 0 ∷ 0 ∷ 0 ∷ 0 ∷ [])

abbrev pub no_times : List ℕ
no_times = 0 ∷ 0 ∷ 0 ∷ 0 ∷ 0 ∷ 0 ∷ 0 ∷ 0 ∷ []

-- preferred for 1800 seconds, and valid for 3600
abbrev pub an_hour : List ℕ
an_hour = 0 ∷ 0 ∷ 7 ∷ 8 ∷ 0 ∷ 0 ∷ 14 ∷ 16 ∷ []

-- both IAs, with a T1 of 900 seconds and a T2 of 1440
abbrev pub ias_given : List ℕ
ias_given =
    (0 ∷ 3 ∷ 0 ∷ 40 ∷ 0 ∷ 0 ∷ 0 ∷ 1 ∷ 0 ∷ 0 ∷ 3 ∷ 0x84 ∷ 0 ∷ 0 ∷ 5 ∷ 0xa0 ∷ []) ++ address_option an_hour
    ++ (0 ∷ 25 ∷ 0 ∷ 41 ∷ 0 ∷ 0 ∷ 0 ∷ 2 ∷ 0 ∷ 0 ∷ 3 ∷ 0x84 ∷ 0 ∷ 0 ∷ 5 ∷ 0xa0 ∷ []) ++ prefix_option an_hour

-- ---- messages: a type, a transaction id, and options

abbrev pub solicit : List ℕ
solicit =
    (1 ∷ 0 ∷ 0 ∷ 1 ∷ []) ++ client_option ++ elapsed_option ++ addresses_asked 12 [] ++ prefixes_asked 12 []
    ++ wanted_option

-- its preference is 255, so that it is taken at once
abbrev pub advertise : List ℕ
advertise = (2 ∷ 0 ∷ 0 ∷ 1 ∷ []) ++ client_option ++ server_option ++ (0 ∷ 7 ∷ 0 ∷ 1 ∷ 255 ∷ []) ++ ias_given

abbrev pub request : List ℕ
request =
    (3 ∷ 0 ∷ 0 ∷ 2 ∷ []) ++ client_option ++ server_option ++ elapsed_option
    ++ addresses_asked 40 (address_option no_times)
    ++ prefixes_asked 41 (prefix_option no_times) ++ wanted_option

abbrev pub reply : List ℕ
reply = (7 ∷ 0 ∷ 0 ∷ 2 ∷ []) ++ client_option ++ server_option ++ ias_given

-- ---- its life

-- no lease was kept
abbrev pub beginning : Beginning
beginning = record { managed = interface; duid = duid; kept4 = None; kept6 = None }

abbrev pub opening : Opening
opening = record { up = 1; at = 1000; salt = 0; offers = [] }

abbrev pub offers : List ℕ → List Offer
offers bytes = record { iface = 1; bytes = bytes; taken = true } ∷ []

abbrev pub met : ℕ → Event → List ℕ → List Offer → Met
met at event bytes offers =
    record { turn = record { at = at; salt = 0; unsent = 0; event = event; bytes = bytes }; offers = offers }

-- SOLICIT; the Advertise, and REQUEST; the Reply. The newest is the first.
abbrev pub three_turns : List Met
three_turns =
    met 2000 (Frame 1 183) (from_server 129 0x98 0x49 reply) []
    ∷ met 1500 (Frame 1 188) (from_server 134 0xd3 0x02 advertise) (offers (from_client 145 0x4a 0x1b request))
    ∷ met 1001 Quiet [] (offers (from_client 74 0xfa 0xae solicit))
    ∷ []

abbrev pub address : Item6
address = record { net = granted; preferred = Some 1802000; valid = Some 3602000 }

abbrev pub addresses : IaLeaseContent
addresses = record { kind = Na; iaid = 1; items = address ∷ [] }

abbrev pub prefix : Item6
prefix = record { net = delegated; preferred = Some 1802000; valid = Some 3602000 }

abbrev pub prefixes : IaLeaseContent
prefixes = record { kind = Pd; iaid = 2; items = prefix ∷ [] }

abbrev pub lease : Lease6Content
lease = record {
  origin = Some (record { mac = client_mac; confirmed = 2000 });
  name = interface.spec.name;
  server = 0 ∷ 3 ∷ 0 ∷ 1 ∷ 2 ∷ 0 ∷ 0 ∷ 0 ∷ 0 ∷ 9 ∷ [];
  t1 = Some 902000;
  t2 = Some 1442000;
  ias = addresses ∷ prefixes ∷ [];
  values = [];
}
