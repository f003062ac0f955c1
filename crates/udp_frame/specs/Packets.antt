-- IPv4 packets that carry a whole UDP datagram (RFC 791): a header, a body to the stated total length, a rest.
use Rattle.std.specs.Prelude.{ℕ, ◌*◌, ◌/◌, ◌%◌, ◌+◌, List, [], ◌∷◌, ◌++◌, length, take, drop, Bool, Option, Some, None, nat_le, slice_index, ◌==◌, ◌&&◌, if◌then◌else◌}
use Rattle.net_types.specs.declared.address.Ip4.{Ip4}
use Rattle.net_types.specs.Sum.{ones_sum, checksum}
use Rattle.udp_frame.specs.declared.ipv4.PacketView.{PacketView}
use Rattle.frame_link.specs.Fields.{word_in, ip4_in, word_text, ip4_text}

pub record Packet : Type 0 where
  pub from : Ip4
  pub to : Ip4
  pub body : List ℕ

-- what a view shows
abbrev pub packet_shown : PacketView → Packet
packet_shown v = record { from = v.from; to = v.to; body = v.body.now }

abbrev pub udp_protocol : ℕ
udp_protocol = 17

-- the low half of the first byte counts words of 32 bits
abbrev pub head_len : List ℕ → ℕ
head_len b = slice_index b 0 % 16 * 4

-- the last 14 bits of the seventh and eighth byte: more fragments, and the fragment's offset
abbrev pub is_whole : List ℕ → Bool
is_whole b = word_in b 6 % 0x4000 == 0

abbrev pub is_packet : List ℕ → Bool
is_packet b =
    nat_le 20 (length b) && (slice_index b 0 / 16 == 4) && nat_le 20 (head_len b) && nat_le (head_len b) (word_in b 2)
    && nat_le (word_in b 2) (length b) && is_whole b && (slice_index b 9 == udp_protocol)
    && (ones_sum (take (head_len b) b) == 65535)

unfoldable pub packet_in : List ℕ → Option Packet
packet_in b =
    if is_packet b
    then Some (record { from = ip4_in b 12; to = ip4_in b 16; body = drop (head_len b) (take (word_in b 2) b) })
    else None

-- version 4 and five words of header, no service asked for, total length, identification 0, don't fragment,
-- 64 hops to live, protocol, header checksum, source, destination
abbrev pub head_text : Ip4 → Ip4 → ℕ → ℕ → List ℕ
head_text from to total sum =
    (0x45 ∷ 0 ∷ []) ++ word_text total ++ word_text 0 ++ word_text 0x4000 ++ (64 ∷ udp_protocol ∷ []) ++ word_text sum
    ++ ip4_text from ++ ip4_text to

-- the header's checksum is that of the header with 0 in its place
abbrev pub whole_head : Ip4 → Ip4 → ℕ → List ℕ
whole_head from to total = head_text from to total (checksum (head_text from to total 0))

abbrev pub packet_text : Packet → List ℕ
packet_text p = whole_head p.from p.to (20 + length p.body) ++ p.body
