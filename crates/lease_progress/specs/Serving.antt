-- Servers that answer in time (RFC 2131, sections 3.1, 3.2 and 4.3). Moments are in milliseconds.
use Rattle.std.specs.Prelude.{◌≡◌, ℕ, ◌+◌, ◌≤◌, ◌==◌, ◌&&◌, Bool, true, false, nat_le, List, ◌∷◌, ◌++◌, Option, Some, None}
use Rattle.std.specs.List.{list_any}
use Rattle.v4_message.specs.declared.writing.Kind4.{Kind4}
use Rattle.v4_message.specs.declared.writing.Kind4.TheVariants.{Discover, Request, Decline, Release}
use Rattle.v4_frames.specs.declared.sent.Sent4.{Sent4}
use Rattle.v4_client.specs.declared.states.Answer4.{Answer4}
use Rattle.v4_client.specs.declared.states.Answer4.TheVariants as answer
use Rattle.v4_client.specs.declared.states.Exchange4.{Exchange4}
use Rattle.v4_client.specs.Answers.{answering, offer_by}
use Rattle.v4_client.specs.Messages.{Arrival}
use Rattle.v4_client.specs.Moves.{is_grant}
use Rattle.v4_client.specs.Saying.{every_address}
use Rattle.v4_client.specs.Settings.{SettingsContent}
use Rattle.client_model.specs.ClientSettings.{settings_of}
use Rattle.evidence_words.specs.Entries.{Entry}
use Rattle.evidence_words.specs.Inputs.{Site}
use Rattle.evidence_words.specs.IfaceLives.{now_in}
use Rattle.lease_evidence.specs.Exchanges.{Numbered, messages_at, seen_in}
use Rattle.lease_evidence.specs.Replies.{arrival_in, reply_at}

-- ---- what is asked

abbrev pub is_discover : Kind4 → Bool
is_discover Discover = true
is_discover Request = false
is_discover Decline = false
is_discover Release = false

abbrev pub is_request : Kind4 → Bool
is_request Discover = false
is_request Request = true
is_request Decline = false
is_request Release = false

-- which REQUESTs are answered: each; or those alone that are broadcast, and so none that renews a lease (section 4.3.2)
pub data Answered : Type 0 where
  EachRequest : Answered
  BroadcastAlone : Answered

abbrev pub is_broadcast : Sent4 → Bool
is_broadcast sent = sent.ends.to.number == every_address.number

abbrev pub is_answered : Answered → Sent4 → Bool
is_answered EachRequest sent = true
is_answered BroadcastAlone sent = is_broadcast sent

-- whether a message is a DISCOVER of this exchange
abbrev pub seeks : (xid : ℕ) → Option Sent4 → Bool
seeks xid None = false
seeks xid (Some sent) = is_discover sent.said.kind && (sent.said.xid == xid)

-- whether it is a REQUEST of this exchange that is answered
abbrev pub asks : Answered → (xid : ℕ) → Option Sent4 → Bool
asks answered xid None = false
asks answered xid (Some sent) = is_request sent.said.kind && (sent.said.xid == xid) && is_answered answered sent

-- ---- what answers it

abbrev pub is_offer : Answer4 → Bool
is_offer answer.Nothing = false
is_offer (answer.Offer address server) = true
is_offer (answer.Ack terms) = false
is_offer answer.Nak = false

abbrev pub is_offer_by : SettingsContent → (xid : ℕ) → Option Arrival → Bool
is_offer_by settings xid None = false
is_offer_by settings xid (Some arrival) = is_offer (offer_by settings arrival (answering settings xid arrival))

-- whether the input of a turn is an acceptable OFFER in this exchange
abbrev pub offers : Site → (xid : ℕ) → Entry → Bool
offers site xid e = is_offer_by (settings_of site.duid site.managed) xid (arrival_in site e)

-- whether it is an acceptable ACK in this one
abbrev pub grants : Site → Exchange4 → Entry → Bool
grants site exchange e = is_grant (reply_at site exchange e)

-- ---- in time

-- one of some turns answers so, by the moment `end`
abbrev pub AnsweredBy : (end : ℕ) → (answers : Entry → Bool) → List Entry → Type 0
AnsweredBy end answers turns = list_any (λ e. nat_le e.moment end && answers e) turns ≡ true

-- Each DISCOVER that was said so long ago or longer was answered by an acceptable OFFER within that time, and each such
-- REQUEST of an exchange by an acceptable ACK.
pub record Serves (site : Site) (answered : Answered) (wait : ℕ) (past : List Entry) : Type 0 where
  pub offered : (later : List Entry) (e : Entry) (earlier : List Entry) (xid : ℕ) → past ≡ later ++ e ∷ earlier
      → e.moment + wait ≤ now_in past → list_any (seeks xid) (messages_at site e) ≡ true
      → AnsweredBy (e.moment + wait) (offers site xid) later
  pub granted : (later : List Entry) (e : Entry) (earlier : List Entry) (opened : Numbered)
      → past ≡ later ++ e ∷ earlier → e.moment + wait ≤ now_in past → (seen_in site (e ∷ earlier)).current ≡ Some opened
      → list_any (asks answered opened.exchange.xid) (messages_at site e) ≡ true
      → AnsweredBy (e.moment + wait) (grants site opened.exchange) later
