-- A server's message, byte for byte (RFC 2131, sections 2 and 4.3.1).
use Rattle.std.specs.Prelude.{ℕ, List, [], ◌∷◌, ◌++◌, replicate}
use Rattle.net_types.specs.declared.address.Ip4.{Ip4}
use Rattle.net_types.specs.Fields.{u32_octets, ip4_octets}
use Rattle.v4_options.specs.declared.code.TheConstants.{SUBNET_MASK, LEASE_TIME, MESSAGE_TYPE, SERVER_IDENTIFIER, END}
use Rattle.v4_options.specs.OptionArea.{Instance}
use Rattle.v4_message.specs.declared.kind.TheConstants.{OFFER, ACK, NAK}
use Rattle.v4_message.specs.Requests.{options_text}
use Rattle.server_data.specs.declared.field.TheConstants.{BOOT_REPLY, ETHERNET, MAC_LEN, MAGIC_COOKIE, NETMASK}
use Rattle.server_data.specs.declared.reply.ReplyKind.{ReplyKind}
use Rattle.server_data.specs.declared.reply.ReplyKind.TheVariants.{Offer, Ack, Nak}
use Rattle.server_data.specs.declared.reply.Reply.{Reply}

abbrev pub kind_number : ReplyKind → ℕ
kind_number Offer = OFFER
kind_number Ack = ACK
kind_number Nak = NAK

-- a NAK gives no address
abbrev pub given_by : ReplyKind → Ip4 → Ip4
given_by Offer address = address
given_by Ack address = address
given_by Nak address = record { number = 0 }

-- how long the lease lasts, and the mask of its network
abbrev pub granted : (lease : ℕ) → List Instance
granted lease = (LEASE_TIME, u32_octets lease) ∷ (SUBNET_MASK, ip4_octets NETMASK) ∷ []

abbrev pub granted_by : ReplyKind → (lease : ℕ) → List Instance
granted_by Offer lease = granted lease
granted_by Ack lease = granted lease
granted_by Nak lease = []

-- the options of a message, in their order
abbrev pub reply_options : Reply → List Instance
reply_options reply =
    (MESSAGE_TYPE, kind_number reply.kind ∷ []) ∷ (SERVER_IDENTIFIER, ip4_octets reply.server)
    ∷ granted_by reply.kind reply.lease

-- op, htype, hlen, hops of 0, xid; secs, flags and ciaddr of 0; yiaddr; siaddr and giaddr of 0; chaddr; no sname, no
-- file; the cookie
abbrev pub reply_fields : Reply → List ℕ
reply_fields reply =
    (BOOT_REPLY ∷ ETHERNET ∷ MAC_LEN ∷ 0 ∷ []) ++ u32_octets reply.xid ++ replicate 8 0
    ++ ip4_octets (given_by reply.kind reply.yiaddr)
    ++ replicate 8 0 ++ reply.chaddr.bytes ++ replicate 202 0 ++ MAGIC_COOKIE

abbrev pub reply_text : Reply → List ℕ
reply_text reply = reply_fields reply ++ options_text (reply_options reply) ++ END ∷ []
