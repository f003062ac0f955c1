-- What a client of a lab hears of the peer's ACKs (RFC 2131, sections 2 and 4.3.1).
use Rattle.std.specs.Prelude.{◌≡◌, ◌<◌, ◌^◌, ℕ}
use Rattle.net_types.specs.declared.address.Mac.{Mac}
use Rattle.net_types.specs.Marks.{AreBytes}
use Rattle.lease_text.specs.declared.lease.Terms4.{Terms4}
use Rattle.world.specs.declared.wakes.Event.TheVariants.{Frame}
use Rattle.v4_client.specs.declared.states.Answer4.TheVariants as answers
use Rattle.v4_client.specs.declared.states.Exchange4.{Exchange4}
use Rattle.server_data.specs.declared.reply.ReplyKind.TheVariants.{Ack}
use Rattle.server_data.specs.declared.reply.Reply.{Reply}
use Rattle.server_data.specs.ReadBack.{FitsReply}
use Rattle.server_data.specs.ServerFrames.{server_frame}
use Rattle.evidence_words.specs.Entries.{Entry}
use Rattle.evidence_words.specs.Inputs.{Site, index_at}
use Rattle.lease_evidence.specs.Replies.{reply_at}

-- terms that are granted in an exchange, and the reply that grants them to this hardware address
pub record IsOfReply (mac : Mac) (exchange : Exchange4) (terms : Terms4) (reply : Reply) : Type 0 where
  pub is_ack : reply.kind ≡ Ack
  pub same_xid : reply.xid ≡ exchange.xid
  pub to_client : reply.chaddr ≡ mac
  pub gives : terms.net.ip ≡ reply.yiaddr
  pub lasts : terms.lease ≡ reply.lease

-- An ACK that a client takes in an exchange is the reply of which the frame was made, and its terms are that reply's.
abbrev pub AcksAreReplies : Type 0
AcksAreReplies = (site : Site) (exchange : Exchange4) (e : Entry) (terms : Terms4) (reply : Reply)
    → e.bytes ≡ server_frame reply → FitsReply reply → reply.lease < 2 ^ 32
    → reply_at site exchange e ≡ answers.Ack terms → IsOfReply site.managed.spec.mac exchange terms reply

-- a frame came in on the interface
pub record IsFrameHere (site : Site) (e : Entry) : Type 0 where
  pub len : ℕ
  pub is : e.event ≡ Frame (index_at site) len

-- No other input has an ACK.
abbrev pub AcksComeInFrames : Type 0
AcksComeInFrames = (site : Site) (exchange : Exchange4) (e : Entry) (terms : Terms4)
    → reply_at site exchange e ≡ answers.Ack terms → IsFrameHere site e

-- The frames of replies to a hardware address of octets are octets.
abbrev pub FramesAreOctets : Type 0
FramesAreOctets = (reply : Reply) → AreBytes reply.chaddr.bytes → AreBytes (server_frame reply)
