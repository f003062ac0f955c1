-- The frame of a client's message, and the message that a frame spells (RFC 2131, sections 2 and 4.1).
use Rattle.std.specs.Prelude.{ℕ, List, drop, Option, Some, None, option_map, option_and_then, bytes_eq, ◌==◌, if◌then◌else◌}
use Rattle.net_types.specs.Fields.{u16_field, u32_field, ip4_field, mac_field}
use Rattle.udp_frame.specs.declared.udp4.Ends4.{Ends4}
use Rattle.udp_frame.specs.Udp4Frames.{udp4_frame_text}
use Rattle.v4_options.specs.declared.code.TheConstants.{MESSAGE_TYPE, REQUESTED_ADDRESS, SERVER_IDENTIFIER}
use Rattle.v4_options.specs.OptionArea.{Instance}
use Rattle.v4_options.specs.OptionValue.{byte_of}
use Rattle.v4_message.specs.declared.kind.TheConstants.{DISCOVER, REQUEST, DECLINE, RELEASE}
use Rattle.v4_message.specs.Message.{message_instances}
use Rattle.v4_message.specs.Messages.{address_at}
use Rattle.v4_message.specs.Requests.{AskContent, message_text, padded}
use Rattle.v4_message.specs.declared.writing.Kind4.{Kind4}
use Rattle.v4_message.specs.declared.writing.Kind4.TheVariants.{Discover, Request, Decline, Release}
use Rattle.v4_message.specs.declared.writing.Said4.{Said4}
use Rattle.v4_frames.specs.declared.sent.Sent4.{Sent4}
use Rattle.v4_frames.specs.declared.sent.TheConstants.{CLIENT_PORT, SERVER_PORT}

-- the frame of a message, from the client's port to the server's
abbrev pub frame_of : AskContent → Sent4 → List ℕ
frame_of ask sent = udp4_frame_text sent.ends CLIENT_PORT SERVER_PORT (padded (message_text sent.said ask))

-- ---- what the fields of a frame say

abbrev pub kind_numbered : ℕ → Option Kind4
kind_numbered n =
    if n == DISCOVER then Some Discover
    else if n == REQUEST then Some Request
    else if n == DECLINE then Some Decline
    else if n == RELEASE then Some Release
    else None

abbrev pub said_as : (message : List ℕ) → List Instance → Kind4 → Said4
said_as message instances kind = record {
  kind = kind;
  xid = u32_field 4 message;
  secs = u16_field 8 message;
  flags = u16_field 10 message;
  ciaddr = ip4_field 12 message;
  mac = mac_field 28 message;
  asked = address_at REQUESTED_ADDRESS instances;
  server = address_at SERVER_IDENTIFIER instances;
}

-- the message of a client that bytes seem to be
unfoldable pub said_in : List ℕ → Option Said4
said_in message =
    option_map (said_as message (message_instances message))
    (option_and_then kind_numbered (byte_of MESSAGE_TYPE (message_instances message)))

-- the ends in the Ethernet header and in the IPv4 header behind its 14 bytes
abbrev pub ends_in : (frame : List ℕ) → Ends4
ends_in frame =
    record {
      from_mac = mac_field 6 frame;
      to_mac = mac_field 0 frame;
      from = ip4_field 26 frame;
      to = ip4_field 30 frame;
    }

-- what a frame seems to say, by its fields behind 42 bytes of headers
unfoldable pub seen_in : (frame : List ℕ) → Option Sent4
seen_in frame = option_map (λ said. record { ends = ends_in frame; said = said }) (said_in (drop 42 frame))

-- ---- what a frame spells

abbrev pub if_spelled : AskContent → (frame : List ℕ) → Sent4 → Option Sent4
if_spelled ask frame sent = if bytes_eq frame (frame_of ask sent) then Some sent else None

-- the message whose frame this is, byte for byte
unfoldable pub sent_in : AskContent → (frame : List ℕ) → Option Sent4
sent_in ask frame = option_and_then (if_spelled ask frame) (seen_in frame)
