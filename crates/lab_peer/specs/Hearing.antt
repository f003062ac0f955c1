-- What a scripted server makes of the frames that it hears (RFC 2131, section 4.3). Unlike a server of the standard it
-- frees no address at a RELEASE: a frame of the lab may come late.
use Rattle.std.specs.Prelude.{ℕ, Bool, false, not, ◌==◌, ◌&&◌, if◌then◌else◌, List, [], ◌∷◌, ◌++◌, find, Option, Some, None, option_map}
use Rattle.std.specs.List.{list_any}
use Rattle.net_types.specs.declared.address.Ip4.{Ip4}
use Rattle.net_types.specs.declared.address.Mac.{Mac}
use Rattle.v4_message.specs.declared.writing.Kind4.{Kind4}
use Rattle.v4_message.specs.declared.writing.Kind4.TheVariants.{Discover, Request, Decline, Release}
use Rattle.v4_message.specs.declared.writing.Said4.{Said4}
use Rattle.v4_frames.specs.declared.sent.Sent4.{Sent4}
use Rattle.server_data.specs.declared.reply.ReplyKind.{ReplyKind}
use Rattle.server_data.specs.declared.reply.ReplyKind.TheVariants.{Offer, Ack, Nak}
use Rattle.server_data.specs.declared.reply.Reply.{Reply}
use Rattle.server_data.specs.declared.framing.TheConstants.{SERVER}
use Rattle.server_data.specs.ServerFrames.{server_frame}
use Rattle.lab_peer.specs.declared.pool.Pool.{Pool}
use Rattle.lab_peer.specs.declared.binding.Bound4.{Bound4}
use Rattle.lab_peer.specs.ClientFrames.{client_sent}
use Rattle.lab_peer.specs.Pools.{in_pool, addresses_of}
use Rattle.lab_peer.specs.Bindings.{lease_end, is_bound, keeps_from, last_address, bind}

-- what a server has to give, what it gave, and the addresses that it gives no more
pub record PeerState : Type 0 where
  pub pool : Pool
  pub bindings : List Bound4
  pub spoiled : List Ip4

-- nothing is given yet
abbrev pub peer_open : Pool → PeerState
peer_open pool = record { pool = pool; bindings = []; spoiled = [] }

-- ---- addresses

abbrev pub is_spoiled : Ip4 → PeerState → Bool
is_spoiled addr peer = list_any (λ spoiled. spoiled.number == addr.number) peer.spoiled

-- free for a client: of the pool, not spoiled, and kept from it by no binding of another one
abbrev pub is_free : Ip4 → Mac → (at : ℕ) → PeerState → Bool
is_free addr mac at peer =
    in_pool addr peer.pool && not (is_spoiled addr peer) && not (list_any (keeps_from addr mac at) peer.bindings)

abbrev pub lowest_free : Mac → (at : ℕ) → PeerState → Option Ip4
lowest_free mac at peer = find (λ addr. is_free addr mac at peer) (addresses_of peer.pool)

-- the one that the client had last, where that is free for it, else the lowest free one
abbrev pub address_for : Mac → (at : ℕ) → PeerState → (last : Option Ip4) → Option Ip4
address_for mac at peer None = lowest_free mac at peer
address_for mac at peer (Some last) = if is_free last mac at peer then Some last else lowest_free mac at peer

abbrev pub offered : Mac → (at : ℕ) → PeerState → Option Ip4
offered mac at peer = address_for mac at peer (last_address mac peer.bindings)

-- ---- messages

-- the server after a message, and what it says
pub record Response : Type 0 where
  pub peer : PeerState
  pub says : Option Reply

abbrev pub silent : PeerState → Response
silent peer = record { peer = peer; says = None }

abbrev pub reply_to : Said4 → PeerState → ReplyKind → Ip4 → Reply
reply_to said peer kind addr =
    record { kind = kind; chaddr = said.mac; xid = said.xid; yiaddr = addr; server = SERVER; lease = peer.pool.lease }

abbrev pub discovered : (at : ℕ) → Said4 → PeerState → Response
discovered at said peer =
    record { peer = peer; says = option_map (reply_to said peer Offer) (offered said.mac at peer) }

-- the address that is asked for, else the client's own
abbrev pub address_wanted : (asked : Option Ip4) → (ciaddr : Ip4) → Ip4
address_wanted (Some asked) ciaddr = asked
address_wanted None ciaddr = ciaddr

-- another server is spoken to
abbrev pub is_for_another : (server : Option Ip4) → Bool
is_for_another None = false
is_for_another (Some server) = not (server.number == SERVER.number)

abbrev pub with_binding : (at : ℕ) → Said4 → Ip4 → PeerState → PeerState
with_binding at said addr peer =
    record peer { bindings = bind addr said.mac (lease_end peer.pool.lease at) peer.bindings }

-- An address that is free for the client becomes its own. Any other one is refused.
abbrev pub requested : (at : ℕ) → Said4 → Ip4 → PeerState → Response
requested at said addr peer =
    if is_free addr said.mac at peer
    then record { peer = with_binding at said addr peer; says = Some (reply_to said peer Ack addr) }
    else record { peer = peer; says = Some (reply_to said peer Nak addr) }

-- An address that is bound to the client is spoiled, and its binding stays.
abbrev pub declined : Mac → (asked : Option Ip4) → PeerState → PeerState
declined mac None peer = peer
declined mac (Some addr) peer =
    if list_any (is_bound addr mac) peer.bindings then record peer { spoiled = peer.spoiled ++ addr ∷ [] } else peer

abbrev pub hears_kind : (at : ℕ) → Said4 → PeerState → Kind4 → Response
hears_kind at said peer Discover = discovered at said peer
hears_kind at said peer Request =
    if is_for_another said.server then silent peer else requested at said (address_wanted said.asked said.ciaddr) peer
hears_kind at said peer Decline = silent (declined said.mac said.asked peer)
hears_kind at said peer Release = silent peer

-- ---- frames

-- A frame that is no client's says nothing to it.
abbrev pub hears_sent : (at : ℕ) → Option Sent4 → PeerState → Response
hears_sent at None peer = silent peer
hears_sent at (Some sent) peer = hears_kind at sent.said peer sent.said.kind

abbrev pub hears : (at : ℕ) → (frame : List ℕ) → PeerState → Response
hears at frame peer = hears_sent at (client_sent frame) peer

-- the frame that it makes
abbrev pub made : Response → Option (List ℕ)
made response = option_map server_frame response.says
