-- That the basis of a lease says something.
use Rattle.std.specs.Prelude.{◌≡◌, ◌≢◌, ℕ, ◌+◌, ◌*◌, ◌≤◌, false, List, ◌∷◌, Some, bytes_eq, ◌⊎◌}
use Rattle.machine.specs.Since.{Always}
use Rattle.net_types.specs.declared.address.Net.{Net}
use Rattle.net_types.specs.declared.address.Net.TheVariants.{V4}
use Rattle.lease_text.specs.declared.lease.Terms4.{Terms4}
use Rattle.lease_text.specs.declared.lease.TheConstants.{INFINITE_LEASE}
use Rattle.v4_client.specs.declared.moments.TheConstants.{SECOND}
use Rattle.v4_client.specs.Messages.{Arrival}
use Rattle.evidence_words.specs.Entries.{Entry}
use Rattle.evidence_words.specs.Inputs.{Site}
use Rattle.lease_evidence.specs.Exchanges.{Numbered, seen_in}
use Rattle.lease_evidence.specs.LeaseBasis.{GoodAck, LeaseBasis}
use Rattle.lease_evidence.specs.Replies.{arrival_in}

-- an acceptable ACK in an exchange that asked for this very address
pub record Grants (site : Site) (net : Net) (e : Entry) (past : List Entry) : Type 0 where
  pub opened : Numbered
  pub terms : Terms4
  pub good : GoodAck site opened terms e past
  pub gives : net ≡ V4 terms.net
  pub asked : terms.net.ip ≡ opened.exchange.address

-- Where no such ACK came the address has no basis.
abbrev pub NeedsAck : Type 0
NeedsAck = (site : Site) (net : Net) (now : ℕ) (past : List Entry)
    → Always (λ e earlier. Grants site net e earlier → ⊥) past → LeaseBasis site net now past → ⊥

-- the time of a lease, from the first REQUEST on, is over
pub record IsOver (opened : Numbered) (terms : Terms4) (now : ℕ) : Type 0 where
  pub ends : terms.lease ≢ INFINITE_LEASE
  pub over : opened.exchange.first + SECOND * terms.lease ≤ now

-- Where each lease of an address that was granted is over, the address has no basis.
abbrev pub EndsWithLease : Type 0
EndsWithLease = (site : Site) (net : Net) (now : ℕ) (past : List Entry)
    → Always (λ e earlier. (grants : Grants site net e earlier) → IsOver grants.opened grants.terms now) past
    → LeaseBasis site net now past → ⊥

-- a message with another transaction id than the exchange's, or with another hardware address than the interface's
abbrev pub IsForeign : Site → Numbered → Arrival → Type 0
IsForeign site opened arrival =
    (arrival.message.xid ≢ opened.exchange.xid)
    ⊎ (bytes_eq arrival.message.chaddr.bytes site.managed.spec.mac.bytes ≡ false)

-- Each message that came in is foreign to the exchange that was open.
abbrev pub HearsForeign : Site → Entry → List Entry → Type 0
HearsForeign site e past = (opened : Numbered) (arrival : Arrival) → (seen_in site (e ∷ past)).current ≡ Some opened
    → arrival_in site e ≡ Some arrival → IsForeign site opened arrival

abbrev pub ForeignGivesNothing : Type 0
ForeignGivesNothing = (site : Site) (net : Net) (now : ℕ) (past : List Entry)
    → Always (HearsForeign site) past → LeaseBasis site net now past → ⊥
