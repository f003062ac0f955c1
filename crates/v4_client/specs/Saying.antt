-- The messages that a client says (RFC 2131, section 4.4.1 and table 5).
use Rattle.std.specs.Prelude.{ℕ, Some, None, if◌then◌else◌}
use Rattle.lease_text.specs.declared.lease.Terms4.{Terms4}
use Rattle.v4_message.specs.declared.writing.Kind4.{Kind4}
use Rattle.v4_message.specs.declared.writing.Kind4.TheVariants.{Discover, Request, Decline, Release}
use Rattle.v4_message.specs.declared.writing.Said4.{Said4}
use Rattle.net_types.specs.declared.address.Ip4.{Ip4}
use Rattle.v4_frames.specs.declared.sent.Sent4.{Sent4}
use Rattle.v4_frames.specs.declared.sent.TheConstants.{EVERY_MAC}
use Rattle.v4_frames.specs.declared.speaker.TheConstants.{BROADCAST_FLAG}
use Rattle.v4_client.specs.declared.setup.Site4.{Site4}
use Rattle.v4_client.specs.declared.states.Exchange4.{Exchange4}
use Rattle.v4_client.specs.declared.states.Say4.{Say4}
use Rattle.v4_client.specs.declared.states.To4.TheVariants.{Everyone, Server}

-- 0.0.0.0 for none, and 255.255.255.255 for every host of the link (RFC 1122, section 3.2.1.3)
abbrev pub no_address : Ip4
no_address = record { number = 0 }

abbrev pub every_address : Ip4
every_address = record { number = 0xffffffff }

-- a message as it goes in a frame
abbrev pub sent_of : Say4 → Sent4
sent_of say = record { ends = say.ends; said = say.said }

-- servers are asked to answer by broadcast (section 4.1)
abbrev pub flags : Site4 → ℕ
flags site = if site.flags.broadcast then BROADCAST_FLAG else 0

-- a message without what its kind adds
abbrev pub base : Site4 → Kind4 → (xid : ℕ) → Said4
base site kind xid = record {
  kind = kind;
  xid = xid;
  secs = 0;
  flags = 0;
  ciaddr = no_address;
  mac = site.iface.mac;
  asked = None;
  server = None;
}

-- by broadcast, from the address that the client has
abbrev pub to_everyone : Said4 → Say4
to_everyone said = record {
  said = said;
  to = Everyone;
  ends = record { from_mac = said.mac; to_mac = EVERY_MAC; from = said.ciaddr; to = every_address };
}

-- to the server that granted the lease, from the address of the lease
abbrev pub to_server : Terms4 → Said4 → Say4
to_server terms said = record {
  said = said;
  to = Server;
  ends = record { from_mac = said.mac; to_mac = terms.server_mac; from = said.ciaddr; to = terms.server };
}

abbrev pub discover : Site4 → (xid secs : ℕ) → Say4
discover site xid secs = to_everyone (record (base site Discover xid) { secs = secs; flags = flags site })

-- selecting, with the server whose offer is taken; init-reboot, without one
abbrev pub request : Site4 → Exchange4 → (secs : ℕ) → Say4
request site exchange secs =
    to_everyone (record (base site Request exchange.xid) {
      secs = secs;
      flags = flags site;
      asked = Some exchange.address;
      server = exchange.server;
    })

abbrev pub renewing_request : Site4 → Terms4 → (xid : ℕ) → Say4
renewing_request site terms xid = to_server terms (record (base site Request xid) { ciaddr = terms.net.ip })

abbrev pub rebinding_request : Site4 → Terms4 → (xid : ℕ) → Say4
rebinding_request site terms xid = to_everyone (record (base site Request xid) { ciaddr = terms.net.ip })

abbrev pub decline : Site4 → Terms4 → (xid : ℕ) → Say4
decline site terms xid =
    to_everyone (record (base site Decline xid) { asked = Some terms.net.ip; server = Some terms.server })

abbrev pub release : Site4 → Terms4 → (xid : ℕ) → Say4
release site terms xid =
    to_server terms (record (base site Release xid) { ciaddr = terms.net.ip; server = Some terms.server })
