-- Whether the clients of a lab used a transaction number again (RFC 2131, section 2, xid).
use Rattle.std.specs.Prelude.{ℕ, Bool, true, false, not, ◌==◌, ◌&&◌, ◌||◌, List, [], ◌∷◌, flat_map, reverse, Option, Some, None, if◌then◌else◌}
use Rattle.std.specs.List.{list_any}
use Rattle.v4_message.specs.declared.writing.Kind4.{Kind4}
use Rattle.v4_message.specs.declared.writing.Kind4.TheVariants as kinds
use Rattle.v4_message.specs.declared.writing.Said4.{Said4}
use Rattle.v4_frames.specs.declared.sent.Sent4.{Sent4}
use Rattle.client_model.specs.Clients.{Sending}
use Rattle.lab_schedule.specs.LabPeer.ClientFrames.{client_sent}
use Rattle.lab_model.specs.declared.exchange.Exchange.{Exchange}

-- a DHCPv4 message, and the interface that sent it
pub record Message : Type 0 where
  pub iface : ℕ
  pub said : Said4

abbrev pub message_with : (iface : ℕ) → Option Sent4 → List Message
message_with iface None = []
message_with iface (Some sent) = record { iface = iface; said = sent.said } ∷ []

-- the message that a frame is, if any
abbrev pub message_in : Sending → List Message
message_in sending = message_with sending.iface.number (client_sent sending.bytes)

-- those of all frames, the last one first
abbrev pub messages_of : List Sending → List Message
messages_of sent = reverse (flat_map message_in sent)

-- ---- exchanges

abbrev pub is_release : Kind4 → Bool
is_release kinds.Release = true
is_release other = false

-- the number with which an exchange goes on after a message; a RELEASE is one of its own
abbrev pub goes_on_by : Said4 → Option ℕ
goes_on_by said = if is_release said.kind then None else Some said.xid

-- the number with which the last exchange of an interface goes on
abbrev pub open_number : (iface : ℕ) → (past : List Message) → Option ℕ
open_number iface [] = None
open_number iface (message ∷ past) = if message.iface == iface then goes_on_by message.said else open_number iface past

abbrev pub is_number : ℕ → Option ℕ → Bool
is_number xid None = false
is_number xid (Some number) = number == xid

-- a RELEASE, or another number than that of the interface's message before it
abbrev pub begins : Message → (past : List Message) → Bool
begins message past = is_release message.said.kind || not (is_number message.said.xid (open_number message.iface past))

abbrev pub exchange_of : Message → Exchange
exchange_of message = record { iface = message.iface; xid = message.said.xid }

-- the exchanges of these messages: messages of one interface with one number, one after another, are one
abbrev pub exchanges : (past : List Message) → List Exchange
exchanges [] = []
exchanges (message ∷ past) = if begins message past then exchange_of message ∷ exchanges past else exchanges past

abbrev pub is_same : Exchange → Exchange → Bool
is_same a b = (a.iface == b.iface) && (a.xid == b.xid)

abbrev pub all_unlike : List Exchange → Bool
all_unlike [] = true
all_unlike (exchange ∷ others) = not (list_any (is_same exchange) others) && all_unlike others

-- no two exchanges of one interface have one number
abbrev pub xids_unlike : (sent : List Sending) → Bool
xids_unlike sent = all_unlike (exchanges (messages_of sent))
