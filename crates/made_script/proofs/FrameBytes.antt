-- The bytes of a frame are bytes.
use Rattle.std.proofs.Common.{ℕ, zero, suc, ◌+◌, ◌<◌, List, [], ◌∷◌, ◌++◌, length, replicate, arith}
use Rattle.std.specs.List.{AllByRecursion}
use Rattle.net_types.specs.declared.address.Ip4.{Ip4}
use Rattle.net_types.specs.Fields.{u32_octets, ip4_octets}
use Rattle.net_types.specs.Marks.{AreBytes}
use Rattle.net_types.proofs.Checksum.{append_bytes}
use Rattle.frame_link.specs.Fields.{word_text}
use Rattle.udp_frame.specs.declared.udp4.Ends4.{Ends4}
use Rattle.udp_frame.specs.Packets.{udp_protocol, head_text}
use Rattle.udp_frame.specs.Datagrams.{pseudo4, datagram_sum, datagram_text}
use Rattle.udp_frame.specs.Udp4Frames.{ip4_kind, udp4_text, udp4_frame_text}
use Rattle.udp_frame.proofs.Cells.{AllSmall, all_bytes, word_bytes, ip4_bytes}
use Rattle.v4_options.specs.OptionArea.{Instance}
use Rattle.v4_message.specs.Requests.{options_text}
use Rattle.server_data.specs.declared.reply.ReplyKind.{ReplyKind}
use Rattle.server_data.specs.declared.reply.ReplyKind.TheVariants.{Offer, Ack, Nak}
use Rattle.server_data.specs.declared.reply.Reply.{Reply}
use Rattle.server_data.specs.Replies.{kind_number, given_by, granted, granted_by, reply_options, reply_fields, reply_text}

record Octets (bytes : List ℕ) : Type 0 where
  pub are : AreBytes bytes

these : (bytes : List ℕ) → AllSmall bytes → Octets bytes
these bytes small = record { are = all_bytes bytes small }

both : {front rest : List ℕ} → Octets front → Octets rest → Octets (front ++ rest)
both {front = front} {rest = rest} one other = record { are = append_bytes front rest one.are other.are }

word : (n : ℕ) → Octets (word_text n)
word n = record { are = word_bytes n }

number : (n : ℕ) → Octets (u32_octets n)
number n = record { are = ip4_bytes (record { number = n }) }

address : (ip : Ip4) → Octets (ip4_octets ip)
address ip = record { are = ip4_bytes ip }

zeros : (n : ℕ) → Octets (replicate n 0)
zeros n = these (replicate n 0) (small n)
  where
    small : (n : ℕ) → AllSmall (replicate n 0)
    small zero = tt
    small (suc n) = (omega arith, small n)

-- ---- the frame of a datagram

head : (from to : Ip4) (total sum : ℕ) → Octets (head_text from to total sum)
head from to total sum =
    let begin = these (0x45 ∷ 0 ∷ []) (omega arith, (omega arith, tt)) in
    let middle = these (64 ∷ udp_protocol ∷ []) (omega arith, (omega arith, tt)) in
    both (both (both (both (both (both (both begin (word total)) (word 0)) (word 0x4000)) middle) (word sum)) (address from)) (address to)

datagram : (pseudo : List ℕ) (from_port to_port : ℕ) (payload : List ℕ) → Octets payload → Octets (datagram_text pseudo from_port to_port payload)
datagram pseudo from_port to_port payload octets =
    let len = 8 + length payload in
    both (both (both (both (word from_port) (word to_port)) (word len)) (word (datagram_sum pseudo from_port to_port len payload))) octets

framed : (ends : Ends4) (from_port to_port : ℕ) (payload : List ℕ) → Octets ends.to_mac.bytes → Octets ends.from_mac.bytes → Octets payload
    → Octets (udp4_frame_text ends from_port to_port payload)
unfolding udp4_frame_text udp4_text
framed ends from_port to_port payload to_octets from_octets octets =
    both (both (both to_octets from_octets) (word ip4_kind))
    (both (head ends.from ends.to _ _) (datagram (pseudo4 ends.from ends.to (8 + length payload)) from_port to_port payload octets))

-- ---- a server's message

abbrev SmallOption : Instance → Type 0
SmallOption instance = (instance.0 < 256) × (length instance.1 < 256) × Octets instance.1

options : (instances : List Instance) → AllByRecursion SmallOption instances → Octets (options_text instances)
options [] small = these [] tt
options (i ∷ instances) small =
    both (both (these (i.0 ∷ length i.1 ∷ []) (small.0.0, (small.0.1, tt))) small.0.2) (options instances small.1)

kind_byte : (kind : ReplyKind) → Octets (kind_number kind ∷ [])
kind_byte Offer = these (2 ∷ []) (omega arith, tt)
kind_byte Ack = these (5 ∷ []) (omega arith, tt)
kind_byte Nak = these (6 ∷ []) (omega arith, tt)

lease_small : (lease : ℕ) → AllByRecursion SmallOption (granted lease)
lease_small lease = ((omega arith, omega arith, number lease), ((omega arith, omega arith, number 0xffffff00), tt))

granted_small : (kind : ReplyKind) (lease : ℕ) → AllByRecursion SmallOption (granted_by kind lease)
granted_small Offer lease = lease_small lease
granted_small Ack lease = lease_small lease
granted_small Nak lease = tt

options_small : (reply : Reply) → AllByRecursion SmallOption (reply_options reply)
options_small reply = (
  (omega arith, omega arith, kind_byte reply.kind),
  ((omega arith, omega arith, address reply.server), granted_small reply.kind reply.lease),
)

fields : (reply : Reply) → Octets reply.chaddr.bytes → Octets (reply_fields reply)
fields reply chaddr =
    let begin = these (2 ∷ 1 ∷ 6 ∷ 0 ∷ []) (omega arith, (omega arith, (omega arith, (omega arith, tt)))) in
    let cookie = these (0x63 ∷ 0x82 ∷ 0x53 ∷ 0x63 ∷ []) (omega arith, (omega arith, (omega arith, (omega arith, tt)))) in
    both
    (both (both (both (both (both (both begin (number reply.xid)) (zeros 8)) (address (given_by reply.kind reply.yiaddr))) (zeros 8)) chaddr) (zeros 202))
    cookie

message : (reply : Reply) → Octets reply.chaddr.bytes → Octets (reply_text reply)
message reply chaddr = both (both (fields reply chaddr) (options (reply_options reply) (options_small reply))) (these (255 ∷ []) (omega arith, tt))

-- the frame of a server's message
pub reply_bytes : (ends : Ends4) (from_port to_port : ℕ) (reply : Reply) → AreBytes ends.to_mac.bytes → AreBytes ends.from_mac.bytes
    → AreBytes reply.chaddr.bytes
    → AreBytes (udp4_frame_text ends from_port to_port (reply_text reply))
reply_bytes ends from_port to_port reply to_octets from_octets chaddr =
    (framed ends from_port to_port (reply_text reply) (record { are = to_octets }) (record { are = from_octets }) (message reply (record { are = chaddr }))).are
