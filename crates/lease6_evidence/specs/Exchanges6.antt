-- The DHCPv6 exchanges that an interface opened, as its frames show them (RFC 8415, sections 16 and 18.2).
use Rattle.std.specs.Prelude.{ℕ, ◌+◌, Bool, true, false, ◌&&◌, ◌||◌, List, [], ◌∷◌, ◌++◌, map, bytes_eq, option_to_list, Option, Some, None, ◌==◌, if◌then◌else◌}
use Rattle.std.specs.Option.{option_and_then}
use Rattle.v6_message.specs.declared.kind.Kind6.{Kind6}
use Rattle.v6_message.specs.declared.kind.Kind6.TheVariants as kind
use Rattle.v6_message.specs.Requests.{SaidContent}
use Rattle.v6_frames.specs.Spelled.{Sent6, sent6_in}
use Rattle.lease_evidence.specs.EvidenceWords.Entries.{Entry, Offer}
use Rattle.lease_evidence.specs.EvidenceWords.Inputs.{Site, offers_at}
use Rattle.lease6_evidence.specs.OwnMessages6.{is_own_said}

-- whether a message is of this interface and this host, and as they are configured
abbrev pub is_own : Site → Sent6 → Bool
is_own site sent =
    bytes_eq sent.mac.bytes site.managed.spec.mac.bytes && bytes_eq sent.said.client site.duid
    && is_own_said site.managed sent.said

abbrev pub if_own : Site → Sent6 → Option Sent6
if_own site sent = if is_own site sent then Some sent else None

-- the DHCPv6 message that a frame spells, where it spells one of the client's own
abbrev pub message6_of : Site → Offer → Option Sent6
message6_of site o = option_and_then (if_own site) (sent6_in o.bytes)

-- what the frames of a turn spell, in order
abbrev pub messages6_at : Site → Entry → List (Option Sent6)
messages6_at site e = map (message6_of site) (offers_at site e)

-- ---- exchanges

-- an exchange: its transaction id, the servers that its messages name, and whether one of them is a SOLICIT
pub record Exchange : Type 0 where
  pub xid : ℕ
  pub servers : List (List ℕ)
  pub solicits : Bool

-- with its number, counted from 1, since two may be alike
pub record Numbered6 : Type 0 where
  pub number : ℕ
  pub exchange : Exchange

-- how many exchanges were opened, and the one that is open
pub record Seen6 : Type 0 where
  pub count : ℕ
  pub current : Option Numbered6

abbrev pub is_solicit : Kind6 → Bool
is_solicit kind.Solicit = true
is_solicit _ = false

-- a Reply is asked for: by a SOLICIT only where the client takes one at once (section 18.2.1)
abbrev pub asks_reply : Kind6 → (rapid : Bool) → Bool
asks_reply kind.Solicit rapid = rapid
asks_reply kind.Request rapid = true
asks_reply kind.Renew rapid = true
asks_reply kind.Rebind rapid = true
asks_reply kind.Release rapid = false
asks_reply kind.Decline rapid = false

abbrev pub exchange_by : SaidContent → Exchange
exchange_by said = record { xid = said.xid; servers = option_to_list said.server; solicits = is_solicit said.kind }

abbrev pub opens6 : SaidContent → (count : ℕ) → Seen6
opens6 said count =
    record { count = count + 1; current = Some (record { number = count + 1; exchange = exchange_by said }) }

-- one more message of an exchange
abbrev pub goes_on : SaidContent → Exchange → Exchange
goes_on said exchange = record {
  xid = exchange.xid;
  servers = exchange.servers ++ option_to_list said.server;
  solicits = exchange.solicits || is_solicit said.kind;
}

abbrev pub joined6 : SaidContent → Seen6 → Numbered6 → Seen6
joined6 said seen open_one = record {
  count = seen.count;
  current = Some (record { number = open_one.number; exchange = goes_on said open_one.exchange });
}

-- A message with the transaction id of the open exchange goes on with it. Any other one opens an exchange.
abbrev pub asks : SaidContent → Seen6 → (current : Option Numbered6) → Seen6
asks said seen None = opens6 said seen.count
asks said seen (Some open_one) =
    if said.xid == open_one.exchange.xid then joined6 said seen open_one else opens6 said seen.count

abbrev pub closes6 : Seen6 → Seen6
closes6 seen = record { count = seen.count; current = None }

-- A frame that spells no DHCPv6 message of the interface changes nothing; one that asks for no Reply closes the
-- exchange.
abbrev pub shows6 : Option Sent6 → Seen6 → Seen6
shows6 None seen = seen
shows6 (Some sent) seen =
    if asks_reply sent.said.kind sent.said.rapid then asks sent.said seen seen.current else closes6 seen

abbrev pub show6 : List (Option Sent6) → Seen6 → Seen6
show6 [] seen = seen
show6 (message ∷ messages) seen = show6 messages (shows6 message seen)

-- the exchanges after some turns
abbrev pub seen6_in : Site → List Entry → Seen6
seen6_in site [] = record { count = 0; current = None }
seen6_in site (e ∷ past) = show6 (messages6_at site e) (seen6_in site past)
