-- That a lease rests on a REQUEST of the client (RFC 2131, sections 3.1, 4.3.2 and 4.4.1), told of the frames that were
-- offered.
use Rattle.std.specs.Prelude.{◌≡◌, ◌≢◌, ℕ, ◌+◌, ◌*◌, ◌≤◌, List, ◌∷◌, ◌++◌}
use Rattle.machine.specs.Since.{Always}
use Rattle.net_types.specs.declared.address.Ip4.{Ip4}
use Rattle.net_types.specs.declared.address.Net.{Net}
use Rattle.net_types.specs.declared.address.Net.TheVariants.{V4}
use Rattle.net_types.specs.declared.address.Net4.{Net4}
use Rattle.lease_text.specs.declared.lease.TheConstants.{INFINITE_LEASE}
use Rattle.world.specs.declared.wakes.Event.TheVariants.{Frame}
use Rattle.v4_message.specs.declared.writing.Kind4.{Kind4}
use Rattle.v4_message.specs.declared.writing.Kind4.TheVariants.{Request}
use Rattle.evidence_words.specs.Entries.{Entry}
use Rattle.evidence_words.specs.Inputs.{Site, index_at}
use Rattle.evidence_words.specs.Probed.{EachAfter}
use Rattle.lease_evidence.specs.Endings.{Says}
use Rattle.lease_evidence.specs.Exchanges.{address_asked}
use Rattle.lease_evidence.specs.Laws.{Grants}
use Rattle.lease_evidence.specs.LeaseBasis.{LeaseBasis}

-- a REQUEST for this address is offered, which names it or has it as the client's own
pub record AsksFor (address : Ip4) (site : Site) (e : Entry) (earlier : List Entry) : Type 0 where
  pub request : Says Request site e earlier
  pub asks : address_asked request.sent.said.asked request.sent.said.ciaddr ≡ address

-- An address for which no REQUEST asked has no basis.
abbrev pub NeedsRequest : Type 0
NeedsRequest = (site : Site) (addr : Net4) (now : ℕ) (past : List Entry)
    → Always (λ e earlier. AsksFor addr.ip site e earlier → ⊥) past → LeaseBasis site (V4 addr) now past → ⊥

-- An address has none either so many seconds after the last REQUEST for it, where each lease of it was for no more than
-- these.
abbrev pub LastsFromRequest : Type 0
LastsFromRequest = (site : Site) (addr : Net4) (now asked secs : ℕ) (past : List Entry)
    → Always (λ e earlier. AsksFor addr.ip site e earlier → e.moment ≤ asked) past
    → Always
    (λ e earlier. (grants : Grants site (V4 addr) e earlier)
    → (grants.terms.lease ≢ INFINITE_LEASE) × (grants.terms.lease ≤ secs))
    past
    → asked + 1000 * secs ≤ now → LeaseBasis site (V4 addr) now past → ⊥

-- Where the client said such a message, and no REQUEST in that turn nor since, no ACK gives a basis.
abbrev pub NeedsNewRequest : Kind4 → Type 0
NeedsNewRequest kind = (site : Site) (net : Net) (now : ℕ) (later : List Entry) (e : Entry) (earlier : List Entry)
    → Says kind site e earlier → (Says Request site e earlier → ⊥)
    → EachAfter (λ e past. Says Request site e past → ⊥) later (e ∷ earlier)
    → LeaseBasis site net now (later ++ e ∷ earlier) → ⊥

-- Where no frame came in on the interface itself, no address has a basis.
abbrev pub NeedsFrameHere : Type 0
NeedsFrameHere = (site : Site) (net : Net) (now : ℕ) (past : List Entry)
    → Always (λ e earlier. (len : ℕ) → e.event ≢ Frame (index_at site) len) past → LeaseBasis site net now past → ⊥
