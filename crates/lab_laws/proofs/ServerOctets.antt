-- The frames that a server makes are octets, where the client's hardware address is.
use Rattle.std.proofs.Common.{ℕ, zero, suc, ◌+◌, ◌<◌, List, [], ◌∷◌, ◌++◌, length, replicate, arith}
use Rattle.std.specs.List.{AllByRecursion}
use Rattle.net_types.specs.declared.address.Ip4.{Ip4}
use Rattle.net_types.specs.Fields.{u32_octets}
use Rattle.net_types.specs.Marks.{AreBytes}
use Rattle.net_types.proofs.Checksum.{append_bytes}
use Rattle.frame_link.specs.Fields.{word_text}
use Rattle.udp_frame.specs.Packets.{udp_protocol, head_text}
use Rattle.udp_frame.specs.Datagrams.{pseudo4, datagram_sum}
use Rattle.udp_frame.specs.Udp4Frames.{ip4_kind, udp4_text, udp4_frame_text}
use Rattle.udp_frame.proofs.Cells.{AllSmall, all_bytes, word_bytes, ip4_bytes}
use Rattle.v4_frames.specs.declared.sent.TheConstants.{CLIENT_PORT, SERVER_PORT}
use Rattle.v4_options.specs.OptionArea.{Instance}
use Rattle.v4_message.specs.Requests.{options_text}
use Rattle.server_data.specs.declared.framing.TheConstants.{SERVER_MAC}
use Rattle.server_data.specs.declared.reply.ReplyKind.{ReplyKind}
use Rattle.server_data.specs.declared.reply.ReplyKind.TheVariants.{Offer, Ack, Nak}
use Rattle.server_data.specs.declared.reply.Reply.{Reply}
use Rattle.server_data.specs.Replies.{kind_number, given_by, granted_by, reply_options, reply_fields, reply_text}
use Rattle.server_data.specs.ServerFrames.{everyone, server_frame}
use Rattle.lab_laws.specs.HeardReplies.{FramesAreOctets}

-- octets, as a record: so the list is read from it
record Are (bytes : List ℕ) : Type 0 where
  octets : AreBytes bytes

cells : (bytes : List ℕ) → AllSmall bytes → Are bytes
cells bytes small = record { octets = all_bytes bytes small }

then : {front rest : List ℕ} → Are front → Are rest → Are (front ++ rest)
then {front = front} {rest = rest} one more = record { octets = append_bytes front rest one.octets more.octets }

two : (a b : ℕ) → a < 256 → b < 256 → Are (a ∷ b ∷ [])
two a b p q = cells (a ∷ b ∷ []) (p, (q, tt))

word : (n : ℕ) → Are (word_text n)
word n = record { octets = word_bytes n }

quad : (n : ℕ) → Are (u32_octets n)
quad n = record { octets = ip4_bytes (record { number = n }) }

all_zero : (n : ℕ) → AllSmall (replicate n 0)
all_zero zero = tt
all_zero (suc n) = (omega arith, all_zero n)

zeros : (n : ℕ) → Are (replicate n 0)
zeros n = cells (replicate n 0) (all_zero n)

-- ---- the message

abbrev IsSmall : Instance → Type 0
IsSmall instance = (instance.0 < 256) × (length instance.1 < 256) × Are instance.1

options : (instances : List Instance) → AllByRecursion IsSmall instances → Are (options_text instances)
options [] small = cells [] tt
options (i ∷ instances) small = then (then (two i.0 (length i.1) small.0.0 small.0.1) small.0.2) (options instances small.1)

kind_cell : (kind : ReplyKind) → Are (kind_number kind ∷ [])
kind_cell Offer = cells (2 ∷ []) (omega arith, tt)
kind_cell Ack = cells (5 ∷ []) (omega arith, tt)
kind_cell Nak = cells (6 ∷ []) (omega arith, tt)

grants : (kind : ReplyKind) (lease : ℕ) → AllByRecursion IsSmall (granted_by kind lease)
grants Offer lease = ((omega arith, omega arith, quad lease), ((omega arith, omega arith, quad 0xffffff00), tt))
grants Ack lease = ((omega arith, omega arith, quad lease), ((omega arith, omega arith, quad 0xffffff00), tt))
grants Nak lease = tt

module _ (reply : Reply) (chaddr : Are reply.chaddr.bytes) where
  fields : Are (reply_fields reply)
  fields =
      let begin = then (two 2 1 (omega arith) (omega arith)) (two 6 0 (omega arith) (omega arith)) in
      let cookie = then (two 0x63 0x82 (omega arith) (omega arith)) (two 0x53 0x63 (omega arith) (omega arith)) in
      then (then (then (then (then (then (then begin (quad reply.xid)) (zeros 8)) (quad (given_by reply.kind reply.yiaddr).number)) (zeros 8)) chaddr)
      (zeros 202)) cookie

  says : AllByRecursion IsSmall (reply_options reply)
  says = (
    (omega arith, omega arith, kind_cell reply.kind),
    ((omega arith, omega arith, quad reply.server.number), grants reply.kind reply.lease),
  )

  message : Are (reply_text reply)
  message = then (then fields (options (reply_options reply) says)) (cells (255 ∷ []) (omega arith, tt))

  -- ---- the frame

  head : (from to : Ip4) (total sum : ℕ) → Are (head_text from to total sum)
  head from to total sum =
      let begin = two 0x45 0 (omega arith) (omega arith) in
      let middle = two 64 udp_protocol (omega arith) (omega arith) in
      then (then (then (then (then (then (then begin (word total)) (word 0)) (word 0x4000)) middle) (word sum)) (quad from.number)) (quad to.number)

  ports : (len sum : ℕ) → Are (word_text SERVER_PORT ++ word_text CLIENT_PORT ++ word_text len ++ word_text sum)
  ports len sum = then (then (then (word SERVER_PORT) (word CLIENT_PORT)) (word len)) (word sum)

  server_mac : Are SERVER_MAC.bytes
  server_mac = then (then (two 2 0 (omega arith) (omega arith)) (two 0 0 (omega arith) (omega arith))) (two 0 254 (omega arith) (omega arith))

  framed : Are (server_frame reply)
  unfolding server_frame udp4_frame_text udp4_text
  framed =
      let len = 8 + length (reply_text reply) in
      let sum = datagram_sum (pseudo4 reply.server everyone len) SERVER_PORT CLIENT_PORT len (reply_text reply) in
      then (then (then chaddr server_mac) (word ip4_kind)) (then (head reply.server everyone _ _) (then (ports len sum) message))

pub frames_are_octets : FramesAreOctets
frames_are_octets reply chaddr = (framed reply (record { octets = chaddr })).octets
