-- An example: an interface is granted 192.168.1.7/24 for an hour, probes the address, and holds it.
use Rattle.std.specs.Prelude.{ℕ, true, false, List, [], ◌∷◌, ◌++◌, replicate, None, Some}
use Rattle.net_types.specs.declared.address.Ip4.{Ip4}
use Rattle.net_types.specs.declared.address.Mac.{Mac}
use Rattle.udp_frame.specs.Udp4Frames.{udp4_frame_text}
use Rattle.v4_frames.specs.declared.sent.TheConstants.{CLIENT_PORT, SERVER_PORT}
use Rattle.lease_text.specs.Leases.{LeaseContent}
use Rattle.evidence_words.specs.DuidText.DuidTexts.{link_layer_duid}
use Rattle.world.specs.declared.wakes.Event.{Event}
use Rattle.world.specs.declared.wakes.Event.TheVariants.{Frame, Quiet}
use Rattle.settings.specs.declared.interfaces.Managed.{Managed}
use Rattle.settings.specs.Flags.{no_flags}
use Rattle.settings.specs.Times.{usual_times}
use Rattle.v4_client.specs.Saying.{discover, request}
use Rattle.evidence_words.specs.ClientModel.Messages.{Said, Dhcp4, Arp}
use Rattle.arp_acd.specs.declared.detection.ArpSay.TheVariants.{Probe, Announce}
use Rattle.evidence_words.specs.ClientModel.ClientSettings.{ask_of, site_of}
use Rattle.evidence_words.specs.ClientModel.Clients.{frame_of}
use Rattle.evidence_words.specs.ClientModel.KeptLeases.{Beginning}
use Rattle.evidence_words.specs.Entries.{Offer}
use Rattle.evidence_words.specs.IfaceLives.{Opening, Met}
use Rattle.lease_evidence.specs.PlainIface.{client_mac, plain_eth0}

abbrev pub server_mac : Mac
server_mac = record { bytes = 2 ∷ 0 ∷ 0 ∷ 0 ∷ 0 ∷ 9 ∷ [] }

abbrev pub server : Ip4
server = record { number = 0xc0a8_0101 }

abbrev pub granted : Ip4
granted = record { number = 0xc0a8_0107 }

-- eth0, with `nodelay` and neither link-local address nor a limit in time
abbrev pub interface : Managed
interface =
    record plain_eth0 {
      conf = record plain_eth0.conf {
        flags = record no_flags { noipv4ll = true; nodelay = true };
        times = record usual_times { timeout = 0; reboot = 0 };
      };
    }

-- the DUID of the host, made of the interface's hardware address
abbrev pub duid : List ℕ
duid = link_layer_duid client_mac

-- ---- what the server says

-- a reply with the transaction id 1 to the client's address, and then its options
abbrev pub reply_text : (options : List ℕ) → List ℕ
reply_text options =
    (2 ∷ 1 ∷ 6 ∷ 0 ∷ []) ++ (0 ∷ 0 ∷ 0 ∷ 1 ∷ []) ++ replicate 8 0 ++ (192 ∷ 168 ∷ 1 ∷ 7 ∷ []) ++ replicate 8 0
    ++ client_mac.bytes ++ replicate 202 0 ++ (0x63 ∷ 0x82 ∷ 0x53 ∷ 0x63 ∷ []) ++ options ++ 255 ∷ []

-- the type, the server 192.168.1.1, an hour, and the mask 255.255.255.0
abbrev pub options_text : (kind : ℕ) → List ℕ
options_text kind =
    (53 ∷ 1 ∷ kind ∷ []) ++ (54 ∷ 4 ∷ 192 ∷ 168 ∷ 1 ∷ 1 ∷ []) ++ (51 ∷ 4 ∷ 0 ∷ 0 ∷ 14 ∷ 16 ∷ [])
    ++ (1 ∷ 4 ∷ 255 ∷ 255 ∷ 255 ∷ 0 ∷ [])

abbrev pub reply_frame : (kind : ℕ) → List ℕ
reply_frame kind =
    udp4_frame_text
    (record { from_mac = server_mac; to_mac = client_mac; from = server; to = granted }) SERVER_PORT CLIENT_PORT
    (reply_text (options_text kind))

-- ---- what the client says

abbrev pub says : Said → List Offer
says message = record { iface = 1; bytes = frame_of interface.spec (ask_of duid interface) message; taken = true } ∷ []

abbrev pub discovers : List Offer
discovers = says (Dhcp4 (discover (site_of interface) 1 0))

abbrev pub requests : List Offer
requests =
    says
    (Dhcp4
    (request (site_of interface) (record { xid = 1; address = granted; server = Some server; first = 2000 }) 0))

abbrev pub probes : List Offer
probes = says (Arp (Probe granted))

abbrev pub announces : List Offer
announces = says (Arp (Announce granted))

-- ---- its life

-- no lease was kept
abbrev pub beginning : Beginning
beginning = record { managed = interface; duid = duid; kept4 = None; kept6 = None }

abbrev pub opening : Opening
opening = record { up = 1; at = 1000; salt = 0; offers = [] }

abbrev pub met : ℕ → Event → List ℕ → List Offer → Met
met at event bytes offers =
    record { turn = record { at = at; salt = 0; unsent = 0; event = event; bytes = bytes }; offers = offers }

-- DISCOVER; an OFFER, and REQUEST; an ACK; three probes; the announcement. The newest is the first.
abbrev pub seven_turns : List Met
seven_turns =
    met 6503 Quiet [] announces
    ∷ met 4503 Quiet [] probes
    ∷ met 3502 Quiet [] probes
    ∷ met 2501 Quiet [] probes
    ∷ met 2500 (Frame 1 304) (reply_frame 5) []
    ∷ met 2000 (Frame 1 304) (reply_frame 2) requests
    ∷ met 1001 Quiet [] discovers
    ∷ []

abbrev pub lease : LeaseContent
lease = record {
  origin = Some (record { mac = client_mac; confirmed = 2500 });
  name = interface.spec.name;
  net = record { ip = granted; len = 24 };
  server = server;
  server_mac = server_mac;
  first = 2000;
  lease = 3600;
  t1 = 1800;
  t2 = 3150;
  values = [];
}
