-- That what a server grants stays bound until it is over (RFC 2131, section 4.3.1). Moments are in milliseconds since
-- 1970, and none is never.
use Rattle.std.specs.Prelude.{◌≡◌, ℕ, ◌≤◌, ◌⊎◌, true, List, Option, Some, None}
use Rattle.net_types.specs.declared.address.Ip4.{Ip4}
use Rattle.net_types.specs.declared.address.Mac.{Mac}
use Rattle.v4_message.specs.declared.writing.Kind4.TheVariants.{Request}
use Rattle.v4_frames.specs.declared.sent.Sent4.{Sent4}
use Rattle.server_data.specs.declared.reply.ReplyKind.TheVariants.{Ack}
use Rattle.server_data.specs.declared.reply.Reply.{Reply}
use Rattle.lab_peer.specs.declared.binding.Bound4.{Bound4}
use Rattle.lab_peer.specs.Bindings.{lease_end, is_over, binding_of}
use Rattle.lab_peer.specs.ClientFrames.{client_sent}
use Rattle.lab_peer.specs.Hearing.{PeerState, hears}

abbrev pub IsNoLater : (end until : Option ℕ) → Type 0
IsNoLater end None = Unit {0}
IsNoLater None (Some until) = ⊥
IsNoLater (Some end) (Some until) = end ≤ until

-- an address is bound to a client until this end at least
pub record IsBoundUntil (addr : Ip4) (mac : Mac) (end : Option ℕ) (peer : PeerState) : Type 0 where
  pub bound : Bound4
  pub is : binding_of addr peer.bindings ≡ Some bound
  pub of_client : bound.mac ≡ mac
  pub lasts : IsNoLater end bound.until

-- What is bound stays bound, whatever is heard, unless its end has come.
abbrev pub StaysBound : Type 0
StaysBound =
    (addr : Ip4) (mac : Mac) (end : Option ℕ) (at : ℕ) (frame : List ℕ) (peer : PeerState)
    → IsBoundUntil addr mac end peer
    → (is_over end at ≡ true) ⊎ IsBoundUntil addr mac end (hears at frame peer).peer

abbrev pub KeepsItsPool : Type 0
KeepsItsPool = (at : ℕ) (frame : List ℕ) (peer : PeerState) → (hears at frame peer).peer.pool ≡ peer.pool

-- the answer to a client's message
pub record IsAnswer (frame : List ℕ) (peer : PeerState) (reply : Reply) : Type 0 where
  pub sent : Sent4
  pub heard : client_sent frame ≡ Some sent
  pub to_client : reply.chaddr ≡ sent.said.mac
  pub same_xid : reply.xid ≡ sent.said.xid
  pub for_lease : reply.lease ≡ peer.pool.lease
  pub to_request : reply.kind ≡ Ack → sent.said.kind ≡ Request

abbrev pub AnswersItsClient : Type 0
AnswersItsClient =
    (at : ℕ) (frame : List ℕ) (peer : PeerState) (reply : Reply) → (hears at frame peer).says ≡ Some reply
    → IsAnswer frame peer reply

-- An ACK binds.
abbrev pub AcksBind : Type 0
AcksBind =
    (at : ℕ) (frame : List ℕ) (peer : PeerState) (reply : Reply) → (hears at frame peer).says ≡ Some reply
    → reply.kind ≡ Ack
    → IsBoundUntil reply.yiaddr reply.chaddr (lease_end peer.pool.lease at) (hears at frame peer).peer
