-- That the basis of an item says something.
use Rattle.std.specs.Prelude.{◌≡◌, ◌≢◌, ℕ, ◌+◌, ◌*◌, ◌≤◌, ◌⊎◌, List, ◌∷◌, Some}
use Rattle.machine.specs.Since.{Always}
use Rattle.net_types.specs.declared.address.Net6.{Net6}
use Rattle.v6_message.specs.Replies.{Content6}
use Rattle.v6_client.specs.V6Items.declared.asks.IaAsk.{IaAsk}
use Rattle.v6_client.specs.V6Items.declared.times.TheConstants.{FOREVER, SECOND}
use Rattle.lease_evidence.specs.EvidenceWords.Entries.{Entry}
use Rattle.lease_evidence.specs.EvidenceWords.Inputs.{Site}
use Rattle.lease6_evidence.specs.Exchanges6.{Numbered6, seen6_in}
use Rattle.lease6_evidence.specs.ItemBasis.{ItemBasis, Mentions}
use Rattle.lease6_evidence.specs.Replies6.{GoodReply, message6_at}

-- a good Reply that names the item
pub record Names (site : Site) (ask : IaAsk) (net : Net6) (e : Entry) (past : List Entry) : Type 0 where
  pub opened : Numbered6
  pub message : Content6
  pub good : GoodReply site opened message e past
  pub mentions : Mentions ask net message

-- Where no such Reply came the item has no basis.
abbrev pub NeedsReply : Type 0
NeedsReply = (site : Site) (ask : IaAsk) (net : Net6) (now : ℕ) (past : List Entry)
    → Always (λ e earlier. Names site ask net e earlier → ⊥) past → ItemBasis site ask net now past → ⊥

-- the valid lifetime, from the Reply on, is over
pub record IsOver (came valid now : ℕ) : Type 0 where
  pub ends : valid ≢ FOREVER
  pub over : came + SECOND * valid ≤ now

-- Where each valid lifetime that the item was given is over, it has no basis.
abbrev pub EndsWithValid : Type 0
EndsWithValid = (site : Site) (ask : IaAsk) (net : Net6) (now : ℕ) (past : List Entry)
    → Always (λ e earlier. (names : Names site ask net e earlier) → IsOver e.moment names.mentions.said.valid now) past
    → ItemBasis site ask net now past → ⊥

-- a message with another transaction id than the exchange's, or to another client
abbrev pub IsForeign6 : Site → Numbered6 → Content6 → Type 0
IsForeign6 site opened message = (message.xid ≢ opened.exchange.xid) ⊎ (message.client ≢ Some site.duid)

-- Each message that came in is foreign to the exchange that was open.
abbrev pub HearsForeign6 : Site → Entry → List Entry → Type 0
HearsForeign6 site e past = (opened : Numbered6) (message : Content6) → (seen6_in site (e ∷ past)).current ≡ Some opened
    → message6_at site e ≡ Some message → IsForeign6 site opened message

abbrev pub ForeignGivesNothing6 : Type 0
ForeignGivesNothing6 = (site : Site) (ask : IaAsk) (net : Net6) (now : ℕ) (past : List Entry)
    → Always (HearsForeign6 site) past → ItemBasis site ask net now past → ⊥
