-- What a frame has for a client (RFC 2131, section 4.1): a server's message to its port, sent to it or to everyone.
use Rattle.std.specs.Prelude.{ℕ, Bool, List, Option, None, option_map, option_and_then, bytes_eq, ◌==◌, ◌&&◌, ◌||◌, if◌then◌else◌}
use Rattle.net_types.specs.declared.address.Mac.{Mac}
use Rattle.frame_link.specs.Frames.{Frame, frame_in, broadcast}
use Rattle.udp_frame.specs.declared.udp4.TheConstants.{KIND_IPV4}
use Rattle.udp_frame.specs.Udp4Frames.{Udp4, udp4_in}
use Rattle.v4_message.specs.Messages.{Message4, message_of, message_in}
use Rattle.v4_frames.specs.declared.heard.Heard4.{Heard4}
use Rattle.v4_frames.specs.declared.sent.TheConstants.{CLIENT_PORT}

-- a message, and the hardware address that it came from
pub record HeardMessage : Type 0 where
  pub source : Mac
  pub message : Message4

-- what a view shows
abbrev pub heard_shown : Heard4 → HeardMessage
heard_shown heard = record { source = heard.source; message = message_of heard.message }

abbrev pub same_mac : Mac → Mac → Bool
same_mac a b = bytes_eq a.bytes b.bytes

abbrev pub is_for : Mac → Frame → Bool
is_for mac frame = (same_mac frame.to mac || same_mac frame.to broadcast) && (frame.kind == KIND_IPV4)

abbrev pub with_source : Mac → Message4 → HeardMessage
with_source source message = record { source = source; message = message }

abbrev pub message_to : (source : Mac) → Udp4 → Option HeardMessage
message_to source datagram =
    if datagram.to_port == CLIENT_PORT then option_map (with_source source) (message_in datagram.payload) else None

abbrev pub message_for : Mac → Frame → Option HeardMessage
message_for mac frame = if is_for mac frame then option_and_then (message_to frame.from) (udp4_in frame.body) else None

-- what the interface with this hardware address hears in a frame
unfoldable pub heard4_in : Mac → (frame : List ℕ) → Option HeardMessage
heard4_in mac frame = option_and_then (message_for mac) (frame_in frame)
