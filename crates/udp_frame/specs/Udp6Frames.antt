-- UDP over IPv6 over Ethernet: what is heard in a frame's body, and the frame that is sent.
use Rattle.std.specs.Prelude.{ℕ, ◌+◌, List, [], ◌∷◌, ◌++◌, length, drop, Bool, not, Option, Some, None, ◌==◌, ◌&&◌, option_and_then, if◌then◌else◌}
use Rattle.net_types.specs.declared.address.Ip6.{Ip6}
use Rattle.net_types.specs.Fields.{ip6_octets}
use Rattle.net_types.specs.Sum.{ones_sum}
use Rattle.frame_link.specs.Fields.{word_in, word_text}
use Rattle.frame_link.specs.Frames.{Frame, said, frame_text}
use Rattle.udp_frame.specs.declared.udp6.Udp6View.{Udp6View}
use Rattle.udp_frame.specs.declared.udp6.Ends6.{Ends6}
use Rattle.udp_frame.specs.Packets.{udp_protocol}
use Rattle.udp_frame.specs.Packets6.{Packet6, packet6_in, packet6_text}
use Rattle.udp_frame.specs.Datagrams.{datagram_in, datagram_text}

-- what stands before a datagram of so many bytes where it is summed (RFC 8200, section 8.1); the length takes four
-- bytes
abbrev pub pseudo6 : Ip6 → Ip6 → ℕ → List ℕ
pseudo6 from to len =
    ip6_octets from ++ ip6_octets to ++ word_text 0 ++ word_text len ++ (0 ∷ 0 ∷ 0 ∷ udp_protocol ∷ [])

-- unlike over IPv4, a checksum of 0 is refused (RFC 8200, section 8.1)
unfoldable pub is_checked6 : Ip6 → Ip6 → List ℕ → Bool
is_checked6 from to datagram =
    not (word_in datagram 6 == 0) && (ones_sum (pseudo6 from to (length datagram) ++ datagram) == 65535)

-- what a datagram says, and between whom
pub record Udp6 : Type 0 where
  pub from : Ip6
  pub to : Ip6
  pub from_port : ℕ
  pub to_port : ℕ
  pub payload : List ℕ

abbrev pub checked6_in : Ip6 → Ip6 → List ℕ → Option Udp6
checked6_in from to datagram =
    if is_checked6 from to datagram
    then Some
    (record {
      from = from;
      to = to;
      from_port = word_in datagram 0;
      to_port = word_in datagram 2;
      payload = drop 8 datagram;
    })
    else None

unfoldable pub udp6_in : List ℕ → Option Udp6
udp6_in body =
    option_and_then (λ p. option_and_then (λ d. checked6_in p.from p.to d) (datagram_in p.body)) (packet6_in body)

-- what a view shows
abbrev pub shown6 : Udp6View → Udp6
shown6 v = record { from = v.from; to = v.to; from_port = v.from_port; to_port = v.to_port; payload = v.payload.now }

abbrev pub said6 : Ip6 → Ip6 → ℕ → ℕ → List ℕ → Udp6
said6 from to from_port to_port payload =
    record { from = from; to = to; from_port = from_port; to_port = to_port; payload = payload }

abbrev pub udp6_packet : Udp6 → Packet6
udp6_packet m =
    record {
      from = m.from;
      to = m.to;
      body = datagram_text (pseudo6 m.from m.to (8 + length m.payload)) m.from_port m.to_port m.payload;
    }

unfoldable pub udp6_text : Udp6 → List ℕ
udp6_text m = packet6_text (udp6_packet m)

abbrev pub ip6_kind : ℕ
ip6_kind = 0x86dd

-- the frame between two ends
abbrev pub udp6_frame : Ends6 → ℕ → ℕ → List ℕ → Frame
udp6_frame ends from_port to_port payload =
    said ends.to_mac ends.from_mac ip6_kind (udp6_text (said6 ends.from ends.to from_port to_port payload))

unfoldable pub udp6_frame_text : Ends6 → ℕ → ℕ → List ℕ → List ℕ
udp6_frame_text ends from_port to_port payload = frame_text (udp6_frame ends from_port to_port payload)
