-- What the pieces of a frame come to.
use Rattle.std.specs.Prelude.{◌==◌}
use Rattle.std.proofs.Common.{◌≡◌, ◌≢◌, false, ℕ, ◌+◌, List, ◌++◌, length, append_assoc, arith}
use Rattle.frame_link.specs.Fields.{word_text}
use Rattle.udp_frame.specs.declared.udp4.Ends4.{Ends4}
use Rattle.udp_frame.specs.declared.udp6.Ends6.{Ends6}
use Rattle.udp_frame.specs.Packets.{whole_head}
use Rattle.udp_frame.specs.Packets6.{head6_text}
use Rattle.udp_frame.specs.Datagrams.{pseudo4, ports_text, datagram_sum, datagram_text}
use Rattle.udp_frame.specs.Udp4Frames.{ip4_kind, udp4_text, udp4_frame_text}
use Rattle.udp_frame.specs.Udp6Frames.{pseudo6, ip6_kind, udp6_text, udp6_frame_text}

joined : (eth head ports payload : List ℕ) → eth ++ head ++ ports ++ payload ≡ eth ++ (head ++ (ports ++ payload))
joined eth head ports payload = simp append_assoc

pub spelled : (ends : Ends4) (from_port to_port : ℕ) (payload : List ℕ)
    → (ends.to_mac.bytes ++ ends.from_mac.bytes ++ word_text ip4_kind)
    ++ whole_head ends.from ends.to (20 + (8 + length payload))
    ++ ports_text from_port to_port (8 + length payload)
    (datagram_sum (pseudo4 ends.from ends.to (8 + length payload)) from_port to_port (8 + length payload) payload)
    ++ payload
    ≡ udp4_frame_text ends from_port to_port payload
unfolding udp4_frame_text udp4_text
spelled ends from_port to_port payload =
    let whole = length (datagram_text (pseudo4 ends.from ends.to (8 + length payload)) from_port to_port payload) in
    let len : 20 + (8 + length payload) ≡ 20 + whole = omega arith in
    rw len (joined (ends.to_mac.bytes ++ ends.from_mac.bytes ++ word_text ip4_kind)
    (whole_head ends.from ends.to (20 + whole))
    (ports_text from_port to_port (8 + length payload)
    (datagram_sum (pseudo4 ends.from ends.to (8 + length payload)) from_port to_port (8 + length payload) payload))
    payload)

pub spelled6 : (ends : Ends6) (from_port to_port : ℕ) (payload : List ℕ)
    → (ends.to_mac.bytes ++ ends.from_mac.bytes ++ word_text ip6_kind)
    ++ head6_text ends.from ends.to (8 + length payload)
    ++ ports_text from_port to_port (8 + length payload)
    (datagram_sum (pseudo6 ends.from ends.to (8 + length payload)) from_port to_port (8 + length payload) payload)
    ++ payload
    ≡ udp6_frame_text ends from_port to_port payload
unfolding udp6_frame_text udp6_text
spelled6 ends from_port to_port payload =
    let len : length (datagram_text (pseudo6 ends.from ends.to (8 + length payload)) from_port to_port payload) ≡ 8 + length payload = omega arith in
    rw len (joined (ends.to_mac.bytes ++ ends.from_mac.bytes ++ word_text ip6_kind)
    (head6_text ends.from ends.to (8 + length payload))
    (ports_text from_port to_port (8 + length payload)
    (datagram_sum (pseudo6 ends.from ends.to (8 + length payload)) from_port to_port (8 + length payload) payload))
    payload)

pub not_zero : (n : ℕ) → n ≢ 0 → (n == 0) ≡ false
not_zero n h = grind (arith)
