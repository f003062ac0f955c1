-- What a judge keeps of an interface from turn to turn, to tell whether its kept lease of DHCPv4 may be held while a
-- server is asked to confirm it (RFC 2131, sections 3.2 and 4.3.2). It takes one turn after another, and looks back at
-- none.
use Rattle.std.specs.Prelude.{◌≡◌, ℕ, Bool, true, false, ◌&&◌, ◌==◌, not, if◌then◌else◌, List, [], ◌∷◌, Option, Some, None, IfSome, is_some}
use Rattle.net_types.specs.declared.address.Ip4.{Ip4}
use Rattle.net_types.specs.declared.address.Net.{Net}
use Rattle.net_types.specs.declared.address.Net.TheVariants.{V4, V6}
use Rattle.net_types.specs.declared.address.Net4.{Net4}
use Rattle.lease_text.specs.Leases.{LeaseContent}
use Rattle.v4_message.specs.declared.writing.Kind4.{Kind4}
use Rattle.v4_message.specs.declared.writing.Kind4.TheVariants.{Discover, Request, Decline, Release}
use Rattle.v4_message.specs.declared.writing.Said4.{Said4}
use Rattle.v4_frames.specs.declared.sent.Sent4.{Sent4}
use Rattle.v4_client.specs.declared.states.Answer4.{Answer4}
use Rattle.v4_client.specs.declared.states.Answer4.TheVariants as answer
use Rattle.v4_client.specs.Answers.{is_unexpired}
use Rattle.v4_client.specs.Saying.{no_address}
use Rattle.world.specs.declared.wakes.Event.{Event}
use Rattle.audit_words.specs.EvidenceWords.Entries.{Entry}
use Rattle.audit_words.specs.EvidenceWords.Inputs.{Site, carrier_after, index_at}
use Rattle.lease6_evidence.specs.LeaseEvidence.Exchanges.{Numbered, messages_at, seen_in}
use Rattle.lease6_evidence.specs.LeaseEvidence.Replies.{reply_at}
use Rattle.kept_judge.specs.Staying.{stays}
use Rattle.kept_judge.specs.declared.standing.Asked4.{Asked4}
use Rattle.kept_judge.specs.declared.standing.Asked4.TheVariants.{Nothing, Again, Over}
use Rattle.kept_judge.specs.declared.standing.Kept4.{Kept4}

-- ---- what the interface says

abbrev pub is_request : Kind4 → Bool
is_request Discover = false
is_request Request = true
is_request Decline = false
is_request Release = false

abbrev pub names_address : Ip4 → Option Ip4 → Bool
names_address address None = false
names_address address (Some named) = named.number == address.number

-- a REQUEST that asks for the address again: it names the address, but no server, and the client has no address yet
abbrev pub asks_again : Ip4 → Said4 → Bool
asks_again address said =
    is_request said.kind && names_address address said.asked && not (is_some said.server)
    && (said.ciaddr.number == no_address.number)

-- The first such REQUEST begins the exchange. Another message, or one of another exchange, ends it all.
abbrev pub said_one : Ip4 → Said4 → Asked4 → Asked4
said_one address said Nothing = if asks_again address said then Again said.xid false else Over
said_one address said (Again xid confirmed) =
    if asks_again address said && (said.xid == xid) then Again xid confirmed else Over
said_one address said Over = Over

abbrev pub said_maybe : Ip4 → Option Sent4 → Asked4 → Asked4
said_maybe address None asked = asked
said_maybe address (Some sent) asked = said_one address sent.said asked

-- the messages of a turn, in order
abbrev pub said_all : Ip4 → List (Option Sent4) → Asked4 → Asked4
said_all address [] asked = asked
said_all address (message ∷ messages) asked = said_all address messages (said_maybe address message asked)

-- ---- what it hears

-- An ACK confirms the lease, and a NAK before the first ACK refuses it.
abbrev pub again_answered : (xid : ℕ) → (confirmed : Bool) → Answer4 → Asked4
again_answered xid confirmed answer.Nothing = Again xid confirmed
again_answered xid confirmed (answer.Offer address server) = Again xid confirmed
again_answered xid confirmed (answer.Ack terms) = Again xid true
again_answered xid confirmed answer.Nak = if confirmed then Again xid true else Over

abbrev pub answered : Asked4 → Answer4 → Asked4
answered Nothing said = Nothing
answered (Again xid confirmed) said = again_answered xid confirmed said
answered Over said = Over

abbrev pub answer_in : Site → Entry → (current : Option Numbered) → Answer4
answer_in site e None = answer.Nothing
answer_in site e (Some opened) = reply_at site opened.exchange e

-- what a server says in the exchange that is open, the turn's own messages counted
abbrev pub answer_at : Site → Entry → List Entry → Answer4
answer_at site e past = answer_in site e (seen_in site (e ∷ past)).current

-- nothing that is said or heard matters any more
abbrev pub is_over4 : Asked4 → Bool
is_over4 Nothing = false
is_over4 (Again xid confirmed) = false
is_over4 Over = true

-- ---- turn by turn

-- Where the carrier goes, the lease is given back or a stop comes, it is over.
abbrev pub if_stays : Bool → Asked4 → Asked4
if_stays true asked = asked
if_stays false asked = Over

abbrev pub turned4 : (index : ℕ) → Event → Ip4 → List (Option Sent4) → Answer4 → Kept4 → Kept4
turned4 index event address messages said kept = record {
  up = carrier_after index event kept.up;
  asked = answered (said_all address messages (if_stays (stays kept.up index event) kept.asked)) said;
}

-- what is kept of the interface after some turns, for a lease of this address
abbrev pub kept4_in : Site → Ip4 → List Entry → Kept4
kept4_in site address [] = record { up = site.up; asked = Nothing }
kept4_in site address (e ∷ past) =
    turned4 (index_at site) e.event address (messages_at site e) (answer_at site e past) (kept4_in site address past)

-- so for the address of the interface's kept lease; nothing is told where none was kept
abbrev pub Tells4 : Kept4 → Site → List Entry → Type 0
Tells4 kept site past = IfSome site.kept4 (λ lease. kept ≡ kept4_in site lease.net.ip past)

-- ---- what may be held

abbrev pub is_net4 : Net → Net4 → Bool
is_net4 (V4 net) other = (net.ip.number == other.ip.number) && (net.len == other.len)
is_net4 (V6 net) other = false

-- a server is asked, and none refused it
abbrev pub is_asking4 : Asked4 → Bool
is_asking4 Nothing = false
is_asking4 (Again xid confirmed) = true
is_asking4 Over = false

-- the lease tells its origin, gives the address, isn't over, and is asked for on an interface with carrier
abbrev pub gives4 : Net → (now : ℕ) → LeaseContent → Kept4 → Bool
gives4 net now lease kept =
    is_some lease.origin && is_net4 net lease.net && is_unexpired lease.first lease.lease now
    && kept.up && is_asking4 kept.asked

abbrev pub some_gives4 : Net → (now : ℕ) → Option LeaseContent → (Ip4 → Kept4) → Bool
some_gives4 net now None kept = false
some_gives4 net now (Some lease) kept = gives4 net now lease (kept lease.net.ip)

-- whether an address may be held as that of the kept lease
abbrev pub is_kept4 : Site → Net → (now : ℕ) → List Entry → Bool
is_kept4 site net now past =
    site.managed.conf.flags.persistent && some_gives4 net now site.kept4 (λ address. kept4_in site address past)
