use Rattle.std.proofs.Common.{◌≡◌, List, ℕ, ◌+◌, ◌++◌, ◌∙◌, ap, length}
use Rattle.frame_link.specs.Fields.{word_text}
use Rattle.udp_frame.specs.Datagrams.{datagram_sum, ports_text, sent_sum}
use Rattle.udp_frame.specs.Packets6.{head6_text}
use Rattle.udp_frame.specs.Udp6Frames.{ip6_kind, pseudo6}
use Rattle.udp_frame.specs.declared.dhcp6.TheConstants.{CLIENT_PORT, SERVER_PORT}
use Rattle.udp_frame.proofs.Spelled.{spelled6}
use Rattle.own_frames6.proofs.framing.framed.Goals as goal

pub returns : goal.returns
returns c =
    let ends = c.args.ends.now in
    let payload = c.args.payload.now in
    let sum : c.sent_sum-sum.result
    ≡ datagram_sum (pseudo6 ends.from ends.to (8 + length payload)) CLIENT_PORT SERVER_PORT (8 + length payload) payload =
    c.sent_sum-sum.ensures ∙ ap sent_sum (c.sum_of.ensures (8 + length payload) c.len_octets.ensures) in
    let ethernet : c.put_ethernet.new.frame.items ≡ ends.to_mac.bytes ++ ends.from_mac.bytes ++ word_text ip6_kind =
    c.in_ok-put_ethernet.ensures
    ∙ ap (λ (x : List ℕ). x ++ (ends.to_mac.bytes ++ ends.from_mac.bytes ++ word_text ip6_kind)) c.new-frame.ensures.items in
    let packet : c.put_packet.new.frame.items
    ≡ (ends.to_mac.bytes ++ ends.from_mac.bytes ++ word_text ip6_kind) ++ head6_text ends.from ends.to (8 + length payload) =
    c.in_ok-put_packet.ensures ∙ ap (λ (x : List ℕ). x ++ head6_text ends.from ends.to (8 + length payload)) ethernet in
    c.in_ok-extend_from_slice.ensures.items
    ∙ ap (λ (x : List ℕ). x ++ payload)
    (c.in_ok-put_ports.ensures ∙ (λ i. packet i ++ ports_text CLIENT_PORT SERVER_PORT (8 + length payload) (sum i)))
    ∙ spelled6 ends CLIENT_PORT SERVER_PORT payload
