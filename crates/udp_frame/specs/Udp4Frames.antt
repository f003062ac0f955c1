-- UDP over IPv4 over Ethernet: what is heard in a frame's body, and the frame that is sent.
use Rattle.std.specs.Prelude.{ℕ, ◌+◌, List, length, drop, Option, Some, None, option_and_then, if◌then◌else◌}
use Rattle.net_types.specs.declared.address.Ip4.{Ip4}
use Rattle.frame_link.specs.Fields.{word_in}
use Rattle.frame_link.specs.Frames.{Frame, said, frame_text}
use Rattle.udp_frame.specs.declared.udp4.Udp4View.{Udp4View}
use Rattle.udp_frame.specs.declared.udp4.Ends4.{Ends4}
use Rattle.udp_frame.specs.Packets.{Packet, packet_in, packet_text}
use Rattle.udp_frame.specs.Datagrams.{datagram_in, is_checked4, pseudo4, datagram_text}

-- what a datagram says, and between whom
pub record Udp4 : Type 0 where
  pub from : Ip4
  pub to : Ip4
  pub from_port : ℕ
  pub to_port : ℕ
  pub payload : List ℕ

abbrev pub checked4_in : Ip4 → Ip4 → List ℕ → Option Udp4
checked4_in from to datagram =
    if is_checked4 from to datagram
    then Some
    (record {
      from = from;
      to = to;
      from_port = word_in datagram 0;
      to_port = word_in datagram 2;
      payload = drop 8 datagram;
    })
    else None

unfoldable pub udp4_in : List ℕ → Option Udp4
udp4_in body =
    option_and_then (λ p. option_and_then (λ d. checked4_in p.from p.to d) (datagram_in p.body)) (packet_in body)

-- what a view shows
abbrev pub shown4 : Udp4View → Udp4
shown4 v = record { from = v.from; to = v.to; from_port = v.from_port; to_port = v.to_port; payload = v.payload.now }

abbrev pub said4 : Ip4 → Ip4 → ℕ → ℕ → List ℕ → Udp4
said4 from to from_port to_port payload =
    record { from = from; to = to; from_port = from_port; to_port = to_port; payload = payload }

abbrev pub udp4_packet : Udp4 → Packet
udp4_packet m =
    record {
      from = m.from;
      to = m.to;
      body = datagram_text (pseudo4 m.from m.to (8 + length m.payload)) m.from_port m.to_port m.payload;
    }

unfoldable pub udp4_text : Udp4 → List ℕ
udp4_text m = packet_text (udp4_packet m)

abbrev pub ip4_kind : ℕ
ip4_kind = 0x0800

-- the frame between two ends
abbrev pub udp4_frame : Ends4 → ℕ → ℕ → List ℕ → Frame
udp4_frame ends from_port to_port payload =
    said ends.to_mac ends.from_mac ip4_kind (udp4_text (said4 ends.from ends.to from_port to_port payload))

unfoldable pub udp4_frame_text : Ends4 → ℕ → ℕ → List ℕ → List ℕ
udp4_frame_text ends from_port to_port payload = frame_text (udp4_frame ends from_port to_port payload)
