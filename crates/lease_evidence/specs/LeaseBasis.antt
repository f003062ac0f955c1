-- Why a leased address may be held (RFC 2131, sections 4.3 and 4.4). Moments are in milliseconds.
use Rattle.std.specs.Prelude.{◌≡◌, ℕ, ◌<◌, Bool, true, false, List, ◌∷◌, Option, Some, None}
use Rattle.std.specs.List.{list_any}
use Rattle.machine.specs.Since.{Since, Always}
use Rattle.net_types.specs.declared.address.Net.{Net}
use Rattle.net_types.specs.declared.address.Net.TheVariants.{V4}
use Rattle.lease_text.specs.declared.lease.Terms4.{Terms4}
use Rattle.v4_message.specs.declared.writing.Kind4.{Kind4}
use Rattle.v4_message.specs.declared.writing.Kind4.TheVariants.{Discover, Request, Decline, Release}
use Rattle.v4_frames.specs.declared.sent.Sent4.{Sent4}
use Rattle.v4_client.specs.declared.states.Answer4.TheVariants.{Ack, Nak}
use Rattle.v4_client.specs.Answers.{is_unexpired}
use Rattle.evidence_words.specs.Entries.{Entry}
use Rattle.evidence_words.specs.Inputs.{Site, StaysOn}
use Rattle.evidence_words.specs.Probed.{Probed}
use Rattle.lease_evidence.specs.Exchanges.{Numbered, messages_at, seen_in}
use Rattle.lease_evidence.specs.Replies.{reply_at}

-- whether a message of the client tells that no lease is held
abbrev pub ends_lease : Kind4 → Bool
ends_lease Discover = true
ends_lease Request = false
ends_lease Decline = true
ends_lease Release = true

abbrev pub tells_end : Option Sent4 → Bool
tells_end None = false
tells_end (Some sent) = ends_lease sent.said.kind

-- a turn in which the carrier stays, nothing is given back, no stop comes, and nothing is said that tells an end
pub record Calm (site : Site) (e : Entry) (past : List Entry) : Type 0 where
  pub stays : StaysOn site e past
  pub silent : list_any tells_end (messages_at site e) ≡ false

-- an acceptable ACK in the open exchange, with the terms that it grants
pub record GoodAck (site : Site) (opened : Numbered) (terms : Terms4) (e : Entry) (past : List Entry) : Type 0 where
  pub is_open : (seen_in site (e ∷ past)).current ≡ Some opened
  pub grants : reply_at site opened.exchange e ≡ Ack terms

-- an acceptable NAK in the open exchange
pub record GoodNak (site : Site) (opened : Numbered) (e : Entry) (past : List Entry) : Type 0 where
  pub is_open : (seen_in site (e ∷ past)).current ≡ Some opened
  pub refuses : reply_at site opened.exchange e ≡ Nak

-- no acceptable ACK in this exchange
abbrev pub GrantsNothing : Site → Numbered → Entry → List Entry → Type 0
GrantsNothing site opened e past = (terms : Terms4) → GoodAck site opened terms e past → ⊥

-- the first acceptable ACK in its exchange
pub record FirstAck (site : Site) (opened : Numbered) (terms : Terms4) (e : Entry) (past : List Entry) : Type 0 where
  pub good : GoodAck site opened terms e past
  pub first : Always (GrantsNothing site opened) past

-- a calm turn without acceptable ACK or NAK in an exchange that was opened later
pub record CalmFor (site : Site) (opened : Numbered) (e : Entry) (past : List Entry) : Type 0 where
  pub calm : Calm site e past
  pub no_ack : (later : Numbered) (terms : Terms4) → GoodAck site later terms e past → opened.number < later.number → ⊥
  pub no_nak : (later : Numbered) → GoodNak site later e past → opened.number < later.number → ⊥

-- The last exchange in which an acceptable ACK came: the first one there gives this very address, and its time, from
-- the first REQUEST on, isn't over. After it came calm turns alone, and no later exchange had an ACK or a NAK. Unless
-- addresses aren't to be probed, the address was, each turn after that of the first probe being calm.
pub record LeaseBasis (site : Site) (net : Net) (now : ℕ) (past : List Entry) : Type 0 where
  pub opened : Numbered
  pub terms : Terms4
  pub gives : net ≡ V4 terms.net
  pub granted : Since (CalmFor site opened) (FirstAck site opened terms) past
  pub unexpired : is_unexpired opened.exchange.first terms.lease now ≡ true
  pub probed : site.managed.conf.flags.noarp ≡ false
      → Probed (Calm site) (λ first before. Unit {0}) site terms.net.ip past
