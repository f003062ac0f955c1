-- What a frame has for a client (RFC 8415, sections 7.2 and 18.2.9): a server's message to the interface's own
-- addresses, and to the client's port.
use Rattle.std.specs.Prelude.{ℕ, Bool, List, Option, None, bytes_eq, ◌==◌, ◌&&◌, if◌then◌else◌}
use Rattle.std.specs.Option.{option_map, option_and_then}
use Rattle.net_types.specs.declared.address.Mac.{Mac}
use Rattle.frame_link.specs.Frames.{Frame, frame_in}
use Rattle.udp_frame.specs.declared.dhcp6.TheConstants.{CLIENT_PORT}
use Rattle.udp_frame.specs.declared.udp6.TheConstants.{KIND_IPV6}
use Rattle.udp_frame.specs.LinkLocal6.{link_local}
use Rattle.udp_frame.specs.Udp6Frames.{Udp6, udp6_in}
use Rattle.v6_message.specs.Replies.{Content6, message6_in}
use Rattle.v6_message.specs.Shown.{message_shown}
use Rattle.v6_frames.specs.declared.heard.Heard6.{Heard6}

-- a message, and the hardware address that it came from
pub record HeardMessage6 : Type 0 where
  pub source : Mac
  pub message : Content6

-- what a view shows
abbrev pub heard_shown : Heard6 → HeardMessage6
heard_shown heard = record { source = heard.source; message = message_shown heard.message }

-- to the hardware address
abbrev pub is_for : Mac → Frame → Bool
is_for mac frame = bytes_eq frame.to.bytes mac.bytes && (frame.kind == KIND_IPV6)

-- to the link-local address
abbrev pub is_to : Mac → Udp6 → Bool
is_to mac datagram = (datagram.to.number == (link_local mac).number) && (datagram.to_port == CLIENT_PORT)

abbrev pub with_source : Mac → Content6 → HeardMessage6
with_source source message = record { source = source; message = message }

abbrev pub message_to : Mac → (source : Mac) → Udp6 → Option HeardMessage6
message_to mac source datagram =
    if is_to mac datagram then option_map (with_source source) (message6_in datagram.payload) else None

abbrev pub message_for : Mac → Frame → Option HeardMessage6
message_for mac frame =
    if is_for mac frame then option_and_then (message_to mac frame.from) (udp6_in frame.body) else None

-- what the interface with this hardware address hears in a frame
unfoldable pub heard6_in : Mac → (frame : List ℕ) → Option HeardMessage6
heard6_in mac frame = option_and_then (message_for mac) (frame_in frame)
