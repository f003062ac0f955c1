-- What a client reads in a server's message.
use Rattle.std.specs.Prelude.{◌≡◌, ◌<◌, ◌^◌, length, Some}
use Rattle.v4_message.specs.declared.kind.MessageKind.{MessageKind}
use Rattle.v4_message.specs.declared.kind.MessageKind.TheVariants as Kinds
use Rattle.v4_message.specs.Messages.{Message4, message_in}
use Rattle.server_data.specs.declared.reply.ReplyKind.{ReplyKind}
use Rattle.server_data.specs.declared.reply.ReplyKind.TheVariants.{Offer, Ack, Nak}
use Rattle.server_data.specs.declared.reply.Reply.{Reply}
use Rattle.server_data.specs.Replies.{given_by, reply_options, reply_text}

abbrev pub message_kind : ReplyKind → MessageKind
message_kind Offer = Kinds.Offer
message_kind Ack = Kinds.Ack
message_kind Nak = Kinds.Nak

abbrev pub reply_message : Reply → Message4
reply_message reply = record {
  kind = message_kind reply.kind;
  xid = reply.xid;
  yiaddr = given_by reply.kind reply.yiaddr;
  chaddr = reply.chaddr;
  instances = reply_options reply;
}

-- the fields that are read as numbers and as a hardware address are of their width
pub record FitsReply (reply : Reply) : Type 0 where
  pub xid : reply.xid < 2 ^ 32
  pub yiaddr : reply.yiaddr.number < 2 ^ 32
  pub chaddr : length reply.chaddr.bytes ≡ 6

abbrev pub ReadsBack : Type 0
ReadsBack = (reply : Reply) → FitsReply reply → message_in (reply_text reply) ≡ Some (reply_message reply)
