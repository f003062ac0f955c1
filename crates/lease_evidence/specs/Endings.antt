-- When the basis of a lease ends before its time (RFC 2131, section 4.4), told of whole lists of turns: those after a
-- turn, that turn, and those before it.
use Rattle.std.specs.Prelude.{◌≡◌, ℕ, true, false, List, ◌∷◌, ◌++◌, Some}
use Rattle.std.specs.List.{Contains}
use Rattle.machine.specs.Since.{Always}
use Rattle.net_types.specs.declared.address.Net.{Net}
use Rattle.net_types.specs.declared.address.Net.TheVariants.{V4}
use Rattle.lease_text.specs.declared.lease.Terms4.{Terms4}
use Rattle.world.specs.declared.wakes.Event.TheVariants.{Release, Stop}
use Rattle.v4_message.specs.declared.writing.Kind4.{Kind4}
use Rattle.v4_frames.specs.declared.sent.Sent4.{Sent4}
use Rattle.v4_client.specs.declared.states.Answer4.TheVariants.{Ack, Nak}
use Rattle.evidence_words.specs.Entries.{Entry, Offer}
use Rattle.evidence_words.specs.Inputs.{Site, index_at, offers_at, has_carrier}
use Rattle.evidence_words.specs.Probed.{EachAfter}
use Rattle.lease_evidence.specs.Exchanges.{Numbered, message_of, seen_in}
use Rattle.lease_evidence.specs.Laws.{Grants, IsOver}
use Rattle.lease_evidence.specs.LeaseBasis.{GoodAck, GrantsNothing, LeaseBasis}
use Rattle.lease_evidence.specs.Replies.{reply_at}

-- In none of some turns, which come after those of `earlier`, was the address granted.
abbrev pub GrantedNoMore : Site → Net → (turns earlier : List Entry) → Type 0
GrantedNoMore site net turns earlier = EachAfter (λ e past. Grants site net e past → ⊥) turns earlier

-- Where a turn is as `Ends` says, and no turn since then granted the address, the address has no basis.
abbrev pub EndsBy : (Ends : Site → Entry → List Entry → Type 0) → Type 0
EndsBy Ends = (site : Site) (net : Net) (now : ℕ) (later : List Entry) (e : Entry) (earlier : List Entry)
    → Ends site e earlier → GrantedNoMore site net later (e ∷ earlier) → LeaseBasis site net now (later ++ e ∷ earlier)
    → ⊥

-- the interface had carrier before the turn, and has none after it
pub record LosesCarrier (site : Site) (e : Entry) (earlier : List Entry) : Type 0 where
  pub had : has_carrier site earlier ≡ true
  pub lost : has_carrier site (e ∷ earlier) ≡ false

-- its leases are to be given back
abbrev pub IsGivenBack : Site → Entry → List Entry → Type 0
IsGivenBack site e earlier = e.event ≡ Release (index_at site)

-- the daemon is to end
abbrev pub IsToldToStop : Site → Entry → List Entry → Type 0
IsToldToStop site e earlier = e.event ≡ Stop

-- an acceptable NAK in the open exchange, which had no acceptable ACK before
pub record IsRefused (site : Site) (e : Entry) (earlier : List Entry) : Type 0 where
  pub opened : Numbered
  pub is_open : (seen_in site (e ∷ earlier)).current ≡ Some opened
  pub says : reply_at site opened.exchange e ≡ Nak
  pub unanswered : Always (GrantsNothing site opened) earlier

-- a frame that is offered on the interface spells a message of this kind
pub record Says (kind : Kind4) (site : Site) (e : Entry) (earlier : List Entry) : Type 0 where
  pub offer : Offer
  pub among : Contains (offers_at site e) offer
  pub sent : Sent4
  pub spells : message_of site offer ≡ Some sent
  pub is_kind : sent.said.kind ≡ kind

-- Where the client said such a message, and neither that turn nor one since then granted the address, it has no basis.
abbrev pub EndsBySaying : Kind4 → Type 0
EndsBySaying kind = (site : Site) (net : Net) (now : ℕ) (later : List Entry) (e : Entry) (earlier : List Entry)
    → Says kind site e earlier → (Grants site net e earlier → ⊥) → GrantedNoMore site net later (e ∷ earlier)
    → LeaseBasis site net now (later ++ e ∷ earlier) → ⊥

-- the first acceptable ACK in the open exchange
pub record GrantsAnew (site : Site) (terms : Terms4) (e : Entry) (earlier : List Entry) : Type 0 where
  pub opened : Numbered
  pub is_open : (seen_in site (e ∷ earlier)).current ≡ Some opened
  pub says : reply_at site opened.exchange e ≡ Ack terms
  pub unanswered : Always (GrantsNothing site opened) earlier

-- no acceptable ACK in another exchange than this one
abbrev pub GrantsNoOther : Site → Numbered → Entry → List Entry → Type 0
GrantsNoOther site opened e past =
    (other : Numbered) (terms : Terms4) → GoodAck site other terms e past → other ≡ opened

-- what a lease gives, and that it isn't over
pub record IsOfTerms (opened : Numbered) (terms : Terms4) (net : Net) (now : ℕ) : Type 0 where
  pub gives : net ≡ V4 terms.net
  pub lasts : IsOver opened terms now → ⊥

-- Once an exchange is granted, its first ACK alone says which address has a basis and how long, until another one is
-- granted.
abbrev pub NewestCounts : Type 0
NewestCounts =
    (site : Site) (net : Net) (now : ℕ) (later : List Entry) (e : Entry) (earlier : List Entry) (terms : Terms4)
    → (granted : GrantsAnew site terms e earlier) → EachAfter (GrantsNoOther site granted.opened) later (e ∷ earlier)
    → LeaseBasis site net now (later ++ e ∷ earlier) → IsOfTerms granted.opened terms net now
