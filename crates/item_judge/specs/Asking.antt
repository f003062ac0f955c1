-- The DHCPv6 exchange that an interface has open, as a judge keeps it (RFC 8415, sections 16 and 18.2).
use Rattle.std.specs.Prelude.{ℕ, Bool, true, false, not, ◌&&◌, ◌||◌, ◌==◌, if◌then◌else◌, List, [], ◌∷◌, bytes_eq, Option, Some, None}
use Rattle.v6_message.specs.Replies.{Content6}
use Rattle.v6_message.specs.Requests.{SaidContent}
use Rattle.v6_frames.specs.Spelled.{Sent6}
use Rattle.v6_client.specs.Answers.{has_bytes, is_duid}
use Rattle.v6_items.specs.Reading.{serves}
use Rattle.evidence_words.specs.Entries.{Entry}
use Rattle.evidence_words.specs.Inputs.{Site}
use Rattle.lease6_evidence.specs.Exchanges6.{asks_reply, is_solicit, messages6_at}
use Rattle.lease6_evidence.specs.Replies6.{asks_at, is_reply, message6_at}

-- the server that the messages of an exchange name, where they don't name unlike ones
pub data Named : Type 0 where
  nobody : Named
  one : List ℕ → Named
  unlike : Named

abbrev pub names_too : (server : List ℕ) → Named → Named
names_too server nobody = one server
names_too server (one other) = if bytes_eq server other then one other else unlike
names_too server unlike = unlike

abbrev pub with_server : Option (List ℕ) → Named → Named
with_server None named = named
with_server (Some server) named = names_too server named

-- whether a server is all that are named
abbrev pub is_named : Named → (server : List ℕ) → Bool
is_named nobody server = true
is_named (one named) server = bytes_eq server named
is_named unlike server = false

-- an exchange: its transaction id, the server that its messages name, whether one of them is a SOLICIT, and whether a
-- good Reply came in it
pub record AskingContent : Type 0 where
  pub xid : ℕ
  pub named : Named
  pub solicits : Bool
  pub answered : Bool

-- ---- the interface's own messages

abbrev pub begun : SaidContent → AskingContent
begun said = record {
  xid = said.xid;
  named = with_server said.server nobody;
  solicits = is_solicit said.kind;
  answered = false;
}

abbrev pub joined : SaidContent → AskingContent → AskingContent
joined said asking = record {
  xid = asking.xid;
  named = with_server said.server asking.named;
  solicits = asking.solicits || is_solicit said.kind;
  answered = asking.answered;
}

-- A message with the transaction id of the open exchange goes on with it. Any other one opens an exchange.
abbrev pub asked : SaidContent → Option AskingContent → AskingContent
asked said None = begun said
asked said (Some asking) = if said.xid == asking.xid then joined said asking else begun said

-- One that asks for no Reply closes it.
abbrev pub said_next : SaidContent → Option AskingContent → Option AskingContent
said_next said asking = if asks_reply said.kind said.rapid then Some (asked said asking) else None

abbrev pub sent_next : Option Sent6 → Option AskingContent → Option AskingContent
sent_next None asking = asking
sent_next (Some sent) asking = said_next sent.said asking

abbrev pub all_next : List (Option Sent6) → Option AskingContent → Option AskingContent
all_next [] asking = asking
all_next (message ∷ messages) asking = all_next messages (sent_next message asking)

-- ---- Replies

abbrev pub is_from : Named → (server : Option (List ℕ)) → Bool
is_from named None = false
is_from named (Some server) = is_duid server && is_named named server

-- whether a message is a Reply of an exchange
abbrev pub answers_in : Site → AskingContent → Content6 → Bool
answers_in site asking message =
    is_reply message.kind && (message.xid == asking.xid) && has_bytes message.client site.duid
    && is_from asking.named message.server
    && (message.rapid || not asking.solicits)

-- whether it is a good one
abbrev pub is_good : Site → AskingContent → Content6 → Bool
is_good site asking message = answers_in site asking message && serves (asks_at site) message

-- a good Reply, and whether it is the first one of its exchange
pub record Heard : Type 0 where
  pub message : Content6
  pub is_new : Bool

abbrev pub heard_in : Site → AskingContent → Content6 → Option Heard
heard_in site asking message =
    if is_good site asking message then Some (record { message = message; is_new = not asking.answered }) else None

abbrev pub heard_by : Site → Option AskingContent → (came : Option Content6) → Option Heard
heard_by site None came = None
heard_by site (Some asking) None = None
heard_by site (Some asking) (Some message) = heard_in site asking message

abbrev pub with_answer : Option Heard → Option AskingContent → Option AskingContent
with_answer None asking = asking
with_answer (Some heard) None = None
with_answer (Some heard) (Some asking) = Some (record asking { answered = true })

-- ---- turn by turn

abbrev pub asking_shown : Site → Entry → Option AskingContent → Option AskingContent
asking_shown site e asking = all_next (messages6_at site e) asking

abbrev pub heard_at : Site → Entry → Option AskingContent → Option Heard
heard_at site e asking = heard_by site (asking_shown site e asking) (message6_at site e)

abbrev pub asking_after : Site → Entry → Option AskingContent → Option AskingContent
asking_after site e asking = with_answer (heard_at site e asking) (asking_shown site e asking)
