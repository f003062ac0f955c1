-- UDP datagrams (RFC 768): source port, destination port, length, checksum, data.
use Rattle.std.specs.Prelude.{ℕ, ◌+◌, List, [], ◌∷◌, ◌++◌, length, take, Bool, Option, Some, None, nat_le, ◌==◌, ◌&&◌, ◌||◌, if◌then◌else◌}
use Rattle.net_types.specs.declared.address.Ip4.{Ip4}
use Rattle.net_types.specs.Sum.{ones_sum, checksum}
use Rattle.frame_link.specs.Fields.{word_in, word_text, ip4_text}
use Rattle.udp_frame.specs.Packets.{udp_protocol}

-- the datagram that a packet's body begins with, as long as it says
unfoldable pub datagram_in : List ℕ → Option (List ℕ)
datagram_in body =
    if nat_le 8 (length body) && nat_le 8 (word_in body 4) && nat_le (word_in body 4) (length body)
    then Some (take (word_in body 4) body)
    else None

-- what stands before a datagram of so many bytes where it is summed
abbrev pub pseudo4 : Ip4 → Ip4 → ℕ → List ℕ
pseudo4 from to len = ip4_text from ++ ip4_text to ++ (0 ∷ udp_protocol ∷ []) ++ word_text len

-- a checksum of 0 says that there is none
unfoldable pub is_checked4 : Ip4 → Ip4 → List ℕ → Bool
is_checked4 from to datagram =
    (word_in datagram 6 == 0) || (ones_sum (pseudo4 from to (length datagram) ++ datagram) == 65535)

abbrev pub ports_text : ℕ → ℕ → ℕ → ℕ → List ℕ
ports_text from_port to_port len sum = word_text from_port ++ word_text to_port ++ word_text len ++ word_text sum

-- a checksum that comes to 0 is sent as all ones
abbrev pub sent_sum : ℕ → ℕ
sent_sum sum = if sum == 0 then 65535 else sum

-- the checksum is that of what stands before, the header with 0 in its place, and the data
abbrev pub datagram_sum : List ℕ → ℕ → ℕ → ℕ → List ℕ → ℕ
datagram_sum pseudo from_port to_port len payload =
    sent_sum (checksum (pseudo ++ ports_text from_port to_port len 0 ++ payload))

abbrev pub datagram_text : List ℕ → ℕ → ℕ → List ℕ → List ℕ
datagram_text pseudo from_port to_port payload =
    ports_text from_port to_port (8 + length payload)
    (datagram_sum pseudo from_port to_port (8 + length payload) payload)
    ++ payload
