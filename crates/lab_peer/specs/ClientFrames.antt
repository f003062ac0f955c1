-- The message of some client in a frame, whatever that client's configuration is (RFC 2131, section 4.4.1 and table 5).
use Rattle.std.specs.Prelude.{ℕ, Bool, true, false, List, length, drop, Option, Some, None, option_and_then, nat_lt, ◌&&◌, ◌||◌, if◌then◌else◌}
use Rattle.v4_options.specs.declared.code.TheConstants.{HOST_NAME, PARAMETER_REQUEST_LIST, VENDOR_CLASS, CLIENT_IDENTIFIER}
use Rattle.v4_options.specs.OptionArea.{Instance}
use Rattle.v4_options.specs.OptionValue.{bytes_at}
use Rattle.v4_message.specs.Message.{message_instances}
use Rattle.v4_message.specs.Requests.{AskContent}
use Rattle.v4_frames.specs.declared.sent.Sent4.{Sent4}
use Rattle.v4_frames.specs.declared.speaker.Speaker.{Speaker}
use Rattle.v4_frames.specs.Ours.{is_ours}
use Rattle.v4_frames.specs.Spelled.{seen_in, if_spelled}

-- what the client says of itself, as the values of its options tell
abbrev pub ask_among : List Instance → AskContent
ask_among instances = record {
  client_id = bytes_at CLIENT_IDENTIFIER instances;
  vendor = bytes_at VENDOR_CLASS instances;
  host = bytes_at HOST_NAME instances;
  list = bytes_at PARAMETER_REQUEST_LIST instances;
}

-- the datagram's data stands behind 42 bytes of headers
abbrev pub ask_in : (frame : List ℕ) → AskContent
ask_in frame = ask_among (message_instances (drop 42 frame))

-- each value fits one option
unfoldable pub ask_fits : AskContent → Bool
ask_fits ask =
    nat_lt (length ask.client_id) 256 && nat_lt (length ask.vendor) 256 && nat_lt (length ask.host) 256
    && nat_lt (length ask.list) 256

-- the client at this hardware address, which asks for answers by broadcast or doesn't
abbrev pub speaker : Sent4 → (broadcast : Bool) → Speaker
speaker sent broadcast = record { mac = sent.said.mac; broadcast = broadcast }

-- the client at the message's own hardware address may say it
unfoldable pub is_of_a_client : Sent4 → Bool
is_of_a_client sent = is_ours (speaker sent false) sent || is_ours (speaker sent true) sent

abbrev pub if_of_a_client : Sent4 → Option Sent4
if_of_a_client sent = if is_of_a_client sent then Some sent else None

-- the message, where its frame is this one and some client may say it
abbrev pub if_said : AskContent → (frame : List ℕ) → Sent4 → Option Sent4
if_said ask frame sent = if ask_fits ask then option_and_then if_of_a_client (if_spelled ask frame sent) else None

-- the message of some client whose frame this is, byte for byte
unfoldable pub client_sent : (frame : List ℕ) → Option Sent4
client_sent frame = option_and_then (if_said (ask_in frame) frame) (seen_in frame)
