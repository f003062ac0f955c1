-- The frame of a client's message, and the message that a frame spells (RFC 8415, sections 7 and 13).
use Rattle.std.specs.Prelude.{ℕ, List, drop, Option, Some, None, bytes_eq, if◌then◌else◌}
use Rattle.std.specs.Option.{option_map, option_and_then}
use Rattle.net_types.specs.declared.address.Mac.{Mac}
use Rattle.net_types.specs.Fields.{mac_field}
use Rattle.udp_frame.specs.declared.dhcp6.TheConstants.{CLIENT_PORT, SERVER_PORT, ALL_RELAY_AGENTS_AND_SERVERS, ALL_RELAY_AGENTS_AND_SERVERS_MAC}
use Rattle.udp_frame.specs.declared.udp6.Ends6.{Ends6}
use Rattle.udp_frame.specs.LinkLocal6.{link_local}
use Rattle.udp_frame.specs.Udp6Frames.{udp6_frame_text}
use Rattle.v6_message.specs.V6Options.declared.duid.Duid.{Duid}
use Rattle.v6_message.specs.declared.said.Said6.{Said6}
use Rattle.v6_message.specs.Requests.{SaidContent, said_content, message6_text}
use Rattle.v6_message.specs.ReadBack.{said6_in}

-- a message, and the hardware address of the interface that says it
pub record Sent6 : Type 0 where
  pub mac : Mac
  pub said : SaidContent

abbrev pub sent_content : Mac → Said6 → Duid → Sent6
sent_content mac said client = record { mac = mac; said = said_content said client }

-- ---- the frame of a message

-- from the interface's link-local address to all servers and relay agents of the link
abbrev pub client_ends : Mac → Ends6
client_ends mac = record {
  from_mac = mac;
  to_mac = ALL_RELAY_AGENTS_AND_SERVERS_MAC;
  from = link_local mac;
  to = ALL_RELAY_AGENTS_AND_SERVERS;
}

-- from the client's port to the servers'
abbrev pub frame6_of : Sent6 → List ℕ
frame6_of sent = udp6_frame_text (client_ends sent.mac) CLIENT_PORT SERVER_PORT (message6_text sent.said)

-- ---- what a frame spells

abbrev pub said_from : Mac → SaidContent → Sent6
said_from mac said = record { mac = mac; said = said }

-- what a frame seems to say: its source is the interface, and the message stands behind 62 bytes of headers
unfoldable pub seen6_in : (frame : List ℕ) → Option Sent6
seen6_in frame = option_map (said_from (mac_field 6 frame)) (said6_in (drop 62 frame))

abbrev pub if_framed : (frame : List ℕ) → Sent6 → Option Sent6
if_framed frame sent = if bytes_eq frame (frame6_of sent) then Some sent else None

-- the message whose frame this is, byte for byte
unfoldable pub sent6_in : (frame : List ℕ) → Option Sent6
sent6_in frame = option_and_then (if_framed frame) (seen6_in frame)
