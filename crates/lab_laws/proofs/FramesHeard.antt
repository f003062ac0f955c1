-- What is heard of a frame is the message that it was made of, if anything is.
use Rattle.std.proofs.Common.{◌≡◌, ℕ, ◌+◌, ◌<◌, ◌^◌, Bool, true, false, List, [], length, take, drop, Option, Some, None, refl, sym, ap, subst, ◌∙◌, arith}
use Rattle.std.specs.Prelude.{option_map, option_and_then, if◌then◌else◌, ◌==◌}
use Rattle.std.proofs.lemmas.List.{append-nil, take_all}
use Rattle.std.proofs.lemmas.Nat.{from_be_bytes-to_be_bytes_2}
use Rattle.net_types.specs.declared.address.Ip4.{Ip4}
use Rattle.net_types.specs.declared.address.Mac.{Mac}
use Rattle.frame_link.specs.Fields.{word_in}
use Rattle.frame_link.specs.Frames.{Frame}
use Rattle.udp_frame.specs.declared.udp4.Ends4.{Ends4}
use Rattle.udp_frame.specs.Datagrams.{datagram_in, is_checked4, pseudo4, datagram_text}
use Rattle.udp_frame.specs.Packets.{Packet, head_len, is_packet, packet_in, packet_text}
use Rattle.udp_frame.specs.Udp4Frames.{Udp4, checked4_in, said4, udp4_in, udp4_packet, udp4_text, udp4_frame, udp4_frame_text}
use Rattle.udp_frame.proofs.Laws.{frame_is_heard}
use Rattle.udp_frame.proofs.Summed.{datagram_heard}
use Rattle.v4_message.specs.Messages.{Message4, message_in}
use Rattle.v4_frames.specs.declared.sent.TheConstants.{CLIENT_PORT, SERVER_PORT}
use Rattle.v4_frames.specs.Heard.{HeardMessage, heard4_in, is_for, message_for, message_to, with_source}
use Rattle.server_data.specs.declared.reply.Reply.{Reply}
use Rattle.server_data.specs.Replies.{reply_text}
use Rattle.server_data.specs.ReadBack.{FitsReply, reply_message}
use Rattle.server_data.specs.ServerFrames.{ends_of, server_frame}
use Rattle.server_data.proofs.RepliesRead.{reads_back, reply_most}

pub one_is : {A : Type 0} (x y : A) → Some x ≡ Some y → x ≡ y
one_is x y e = cc

-- what stands behind a test that was passed
pub passes : {A : Type 0} (test : Bool) (found : Option A) (x : A) → (if test then found else None) ≡ Some x → found ≡ Some x
passes true found x e = e
passes false found x e = absurd cc

-- ---- a packet and its datagram

module _ (p : Packet) (small : 20 + length p.body < 2 ^ 16) where
  whole : drop 20 (take (20 + length p.body) (packet_text p)) ≡ p.body
  whole = rw (take_all (20 + length p.body) (packet_text p) (omega arith)) refl

  body_is : drop (head_len (packet_text p)) (take (word_in (packet_text p) 2) (packet_text p)) ≡ p.body
  body_is =
      let total : word_in (packet_text p) 2 ≡ 20 + length p.body = from_be_bytes-to_be_bytes_2 (20 + length p.body) small in
      ap (λ (n : ℕ). drop 20 (take n (packet_text p))) total ∙ whole

  packet_gives : (q : Packet) → packet_in (packet_text p) ≡ Some q → q.body ≡ p.body
  unfolding packet_in
  packet_gives q e = sym (ap (λ (found : Packet). found.body) (one_is _ q (passes (is_packet (packet_text p)) _ q e))) ∙ body_is

checked_gives : (from to : Ip4) (d : List ℕ) (x : Udp4) → checked4_in from to d ≡ Some x → x.payload ≡ drop 8 d
checked_gives from to d x e = sym (ap (λ (found : Udp4). found.payload) (one_is _ x (passes (is_checked4 from to d) _ x e)))

module _ (m : Udp4) (small : 28 + length m.payload < 2 ^ 16) where
  abbrev text : List ℕ
  text = datagram_text (pseudo4 m.from m.to (8 + length m.payload)) m.from_port m.to_port m.payload

  datagram_gives : (q : Packet) (x : Udp4) → q.body ≡ text
      → option_and_then (λ d. checked4_in q.from q.to d) (datagram_in q.body) ≡ Some x → x.payload ≡ m.payload
  datagram_gives q x is e =
      let found : datagram_in q.body ≡ Some text =
      ap datagram_in (is ∙ sym (append-nil text))
      ∙ datagram_heard (pseudo4 m.from m.to (8 + length m.payload)) m.from_port m.to_port m.payload [] (omega (arith, small)) in
      checked_gives q.from q.to text x
      (subst (λ (o : Option (List ℕ)). option_and_then (λ d. checked4_in q.from q.to d) o ≡ Some x) found e)

  by_packet : (found : Option Packet) (x : Udp4) → packet_in (packet_text (udp4_packet m)) ≡ found
      → option_and_then (λ p. option_and_then (λ d. checked4_in p.from p.to d) (datagram_in p.body)) found ≡ Some x → x.payload ≡ m.payload
  by_packet None x is e = absurd cc
  by_packet (Some q) x is e =
      let len : length text ≡ 8 + length m.payload = omega arith in
      datagram_gives q x (packet_gives (udp4_packet m) (omega (arith, small, len)) q is) e

  udp_gives : (x : Udp4) → udp4_in (udp4_text m) ≡ Some x → x.payload ≡ m.payload
  unfolding udp4_in udp4_text
  udp_gives x e = by_packet (packet_in (packet_text (udp4_packet m))) x refl e

-- ---- the message

mapped : (source : Mac) (o : Option Message4) (h : HeardMessage) → option_map (with_source source) o ≡ Some h → o ≡ Some h.message
mapped source None h e = absurd cc
mapped source (Some m) h e = ap (λ (x : HeardMessage). Some x.message) (one_is (with_source source m) h e)

by_datagram : (source : Mac) (payload : List ℕ) (found : Option Udp4) (h : HeardMessage) → ((x : Udp4) → found ≡ Some x → x.payload ≡ payload)
    → option_and_then (message_to source) found ≡ Some h → message_in payload ≡ Some h.message
by_datagram source payload None h gives e = absurd cc
by_datagram source payload (Some x) h gives e =
    ap message_in (sym (gives x refl))
    ∙ mapped source (message_in x.payload) h (passes (x.to_port == CLIENT_PORT) (option_map (with_source source) (message_in x.payload)) h e)

pub frame_gives : (mac : Mac) (ends : Ends4) (from_port to_port : ℕ) (payload : List ℕ) (h : HeardMessage)
    → length ends.to_mac.bytes ≡ 6 → length ends.from_mac.bytes ≡ 6 → 28 + length payload < 2 ^ 16
    → heard4_in mac (udp4_frame_text ends from_port to_port payload) ≡ Some h → message_in payload ≡ Some h.message
unfolding heard4_in
frame_gives mac ends from_port to_port payload h to_len from_len small e =
    let frame : Frame = udp4_frame ends from_port to_port payload in
    let found : message_for mac frame ≡ Some h =
    subst (λ (o : Option Frame). option_and_then (message_for mac) o ≡ Some h) (frame_is_heard ends from_port to_port payload to_len from_len) e in
    by_datagram frame.from payload (udp4_in frame.body) h (λ x is. udp_gives (said4 ends.from ends.to from_port to_port payload) small x is)
    (passes (is_for mac frame) (option_and_then (message_to frame.from) (udp4_in frame.body)) h found)

-- ---- a server's message

pub heard_is_reply : (mac : Mac) (reply : Reply) (h : HeardMessage) → FitsReply reply → heard4_in mac (server_frame reply) ≡ Some h
    → h.message ≡ reply_message reply
unfolding server_frame
heard_is_reply mac reply h fits e =
    let small : 28 + length (reply_text reply) < 2 ^ 16 = omega (arith, reply_most reply fits.chaddr) in
    one_is h.message (reply_message reply)
    (sym (frame_gives mac (ends_of reply) SERVER_PORT CLIENT_PORT (reply_text reply) h fits.chaddr refl small e) ∙ reads_back reply fits)
