-- IPv6 packets that carry a whole UDP datagram (RFC 8200, section 3): a header of 40 bytes, a body of the stated
-- length, a rest.
use Rattle.std.specs.Prelude.{ℕ, ◌/◌, ◌+◌, List, [], ◌∷◌, ◌++◌, length, take, drop, Bool, Option, Some, None, nat_le, slice_index, ◌==◌, ◌&&◌, if◌then◌else◌}
use Rattle.net_types.specs.declared.address.Ip6.{Ip6}
use Rattle.net_types.specs.Fields.{ip6_field, ip6_octets}
use Rattle.frame_link.specs.Fields.{word_in, word_text}
use Rattle.udp_frame.specs.declared.ipv6.Packet6View.{Packet6View}
use Rattle.udp_frame.specs.Packets.{udp_protocol}

pub record Packet6 : Type 0 where
  pub from : Ip6
  pub to : Ip6
  pub body : List ℕ

-- what a view shows
abbrev pub packet6_shown : Packet6View → Packet6
packet6_shown v = record { from = v.from; to = v.to; body = v.body.now }

-- the payload length counts what follows the header, in which no extension stands: the next header is UDP's
abbrev pub is_packet6 : List ℕ → Bool
is_packet6 b =
    nat_le 40 (length b) && (slice_index b 0 / 16 == 6) && nat_le (40 + word_in b 4) (length b)
    && (slice_index b 6 == udp_protocol)

unfoldable pub packet6_in : List ℕ → Option Packet6
packet6_in b =
    if is_packet6 b
    then Some (record { from = ip6_field 8 b; to = ip6_field 24 b; body = take (word_in b 4) (drop 40 b) })
    else None

-- version 6 with traffic class and flow label 0, payload length, next header, hop limit 64, source, destination
abbrev pub head6_text : Ip6 → Ip6 → ℕ → List ℕ
head6_text from to len =
    (0x60 ∷ 0 ∷ 0 ∷ 0 ∷ []) ++ word_text len ++ (udp_protocol ∷ 64 ∷ []) ++ ip6_octets from ++ ip6_octets to

abbrev pub packet6_text : Packet6 → List ℕ
packet6_text p = head6_text p.from p.to (length p.body) ++ p.body
