-- The exchanges that an interface opened, as its frames show them (RFC 2131, sections 4.3.2 and 4.4).
use Rattle.std.specs.Prelude.{ℕ, ◌+◌, List, [], ◌∷◌, map, Option, Some, None, ◌==◌, if◌then◌else◌}
use Rattle.net_types.specs.declared.address.Ip4.{Ip4}
use Rattle.v4_message.specs.declared.writing.Kind4.{Kind4}
use Rattle.v4_message.specs.declared.writing.Kind4.TheVariants.{Discover, Request, Decline, Release}
use Rattle.v4_message.specs.declared.writing.Said4.{Said4}
use Rattle.v4_frames.specs.declared.sent.Sent4.{Sent4}
use Rattle.v4_client.specs.declared.states.Exchange4.{Exchange4}
use Rattle.evidence_words.specs.ClientModel.ClientSettings.{ask_of}
use Rattle.evidence_words.specs.Entries.{Entry, Offer}
use Rattle.evidence_words.specs.Inputs.{Site, offers_at}
use Rattle.lease_evidence.specs.OwnMessages.{own_in, speaker_of}

-- the DHCPv4 message that a frame spells, where it spells one of the client's own
abbrev pub message_of : Site → Offer → Option Sent4
message_of site o = own_in (speaker_of site.managed) (ask_of site.duid site.managed) o.bytes

-- what the frames of a turn spell, in order
abbrev pub messages_at : Site → Entry → List (Option Sent4)
messages_at site e = map (message_of site) (offers_at site e)

-- an exchange and its number, counted from 1, since two may be alike
pub record Numbered : Type 0 where
  pub number : ℕ
  pub exchange : Exchange4

-- how many exchanges were opened, and the one that is open
pub record Seen : Type 0 where
  pub count : ℕ
  pub current : Option Numbered

-- the address that a REQUEST asks for: the one that it names, else the client's own
abbrev pub address_asked : (asked : Option Ip4) → (ciaddr : Ip4) → Ip4
address_asked (Some address) ciaddr = address
address_asked None ciaddr = ciaddr

abbrev pub exchange_of : (at : ℕ) → Said4 → Exchange4
exchange_of at said =
    record { xid = said.xid; address = address_asked said.asked said.ciaddr; server = said.server; first = at }

abbrev pub opens : (at : ℕ) → Said4 → (count : ℕ) → Seen
opens at said count =
    record { count = count + 1; current = Some (record { number = count + 1; exchange = exchange_of at said }) }

abbrev pub closes : Seen → Seen
closes seen = record seen { current = None }

-- A REQUEST with the transaction id of the open exchange goes on with it. Any other one opens an exchange.
abbrev pub requests : (at : ℕ) → Said4 → Seen → (current : Option Numbered) → Seen
requests at said seen None = opens at said seen.count
requests at said seen (Some open_one) = if said.xid == open_one.exchange.xid then seen else opens at said seen.count

abbrev pub says : (at : ℕ) → Said4 → Seen → Kind4 → Seen
says at said seen Request = requests at said seen seen.current
says at said seen Discover = closes seen
says at said seen Decline = closes seen
says at said seen Release = closes seen

-- A frame that spells no DHCPv4 message changes nothing.
abbrev pub shows : (at : ℕ) → Option Sent4 → Seen → Seen
shows at None seen = seen
shows at (Some sent) seen = says at sent.said seen sent.said.kind

abbrev pub show : (at : ℕ) → List (Option Sent4) → Seen → Seen
show at [] seen = seen
show at (message ∷ messages) seen = show at messages (shows at message seen)

-- the exchanges after some turns
abbrev pub seen_in : Site → List Entry → Seen
seen_in site [] = record { count = 0; current = None }
seen_in site (e ∷ past) = show e.moment (messages_at site e) (seen_in site past)
