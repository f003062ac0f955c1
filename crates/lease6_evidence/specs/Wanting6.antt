-- What the basis of an item can't do without (RFC 8415, sections 16.10, 18.2.1, 18.2.10 and 21.4), in other words than
-- the basis has.
use Rattle.std.specs.Prelude.{◌≡◌, ◌≢◌, ℕ, true, false, ◌⊎◌, List, ◌∷◌, ◌++◌, Some}
use Rattle.std.specs.List.{AllByRecursion, Contains}
use Rattle.machine.specs.Since.{Always}
use Rattle.net_types.specs.declared.address.Net.{Net}
use Rattle.net_types.specs.declared.address.Net.TheVariants.{V6}
use Rattle.net_types.specs.declared.address.Net6.{Net6}
use Rattle.v6_options.specs.declared.ia.IaKind.TheVariants.{Na}
use Rattle.v6_options.specs.declared.ia.ItemSaid.{ItemSaid}
use Rattle.v6_message.specs.declared.kind.ServerKind6.TheVariants.{Advertise}
use Rattle.v6_message.specs.Replies.{Content6}
use Rattle.v6_frames.specs.Spelled.{Sent6}
use Rattle.lease6_text.specs.declared.lease.Item6.{Item6}
use Rattle.lease6_text.specs.Leases.{IaLeaseContent}
use Rattle.v6_client.specs.V6Items.declared.asks.IaAsk.{IaAsk}
use Rattle.v6_client.specs.Answers.{is_duid}
use Rattle.v6_client.specs.V6Items.Reading.{serves}
use Rattle.lease_evidence.specs.EvidenceWords.Entries.{Entry, Offer}
use Rattle.lease_evidence.specs.EvidenceWords.Inputs.{Site, offers_at}
use Rattle.lease6_evidence.specs.Ends6.{WasAnswered, said_for}
use Rattle.lease6_evidence.specs.Exchanges6.{Numbered6, asks_reply, message6_of, seen6_in}
use Rattle.lease6_evidence.specs.HeldItems.{HasItemBasis}
use Rattle.lease6_evidence.specs.ItemBasis.{AddressBasis, ItemBasis}
use Rattle.lease6_evidence.specs.Laws6.{Names}
use Rattle.lease6_evidence.specs.Replies6.{asks_at, message6_at}

-- Where each turn is so, no item of an IA has a basis.
abbrev pub GivesNothing : (Such : Site → Entry → List Entry → Type 0) → Type 0
GivesNothing Such = (site : Site) (ask : IaAsk) (net : Net6) (now : ℕ) (past : List Entry)
    → Always (Such site) past → ItemBasis site ask net now past → ⊥

-- ---- an exchange of one's own

-- no frame asks a server for a Reply
abbrev pub AsksNothing : Site → Offer → Type 0
AsksNothing site o = (sent : Sent6) → message6_of site o ≡ Some sent → asks_reply sent.said.kind sent.said.rapid ≡ false

-- so in a turn
abbrev pub IsSilent6 : Site → Entry → List Entry → Type 0
IsSilent6 site e past = AllByRecursion (AsksNothing site) (offers_at site e)

-- ---- a Reply that counts

-- it is of no server that a DUID tells
abbrev pub IsNameless : Content6 → Type 0
IsNameless message = (server : List ℕ) → message.server ≡ Some server → is_duid server ≡ false

-- a server that the exchange names isn't the one that it is of
pub record IsOfOther (opened : Numbered6) (message : Content6) : Type 0 where
  pub server : List ℕ
  pub is_its : message.server ≡ Some server
  pub before : List (List ℕ)
  pub named : List ℕ
  pub after : List (List ℕ)
  pub cut : opened.exchange.servers ≡ before ++ named ∷ after
  pub other : server ≢ named

-- a Reply to a SOLICIT that doesn't say that it answers one (RFC 8415, section 21.14)
pub record IsHasty (opened : Numbered6) (message : Content6) : Type 0 where
  pub solicits : opened.exchange.solicits ≡ true
  pub plain : message.rapid ≡ false

-- It is an Advertise, or of no server, or of another one than the exchange names, or too hasty, or serves nothing that
-- is asked for.
abbrev pub IsIdle6 : Site → Numbered6 → Content6 → Type 0
IsIdle6 site opened message =
    (message.kind ≡ Advertise)
    ⊎
    (IsNameless message
    ⊎ (IsOfOther opened message ⊎ (IsHasty opened message ⊎ (serves (asks_at site) message ≡ false))))

-- Each message that came in is such a one in the exchange that was open.
abbrev pub HearsIdle6 : Site → Entry → List Entry → Type 0
HearsIdle6 site e past = (opened : Numbered6) (message : Content6) → (seen6_in site (e ∷ past)).current ≡ Some opened
    → message6_at site e ≡ Some message → IsIdle6 site opened message

-- Where each good Reply that names the item came in an exchange that was answered before, it has no basis.
abbrev pub FirstAloneGives : Type 0
FirstAloneGives = (site : Site) (ask : IaAsk) (net : Net6) (now : ℕ) (past : List Entry)
    → Always (λ e earlier. (names : Names site ask net e earlier) → WasAnswered site names.opened.number earlier) past
    → ItemBasis site ask net now past → ⊥

-- ---- the item itself

-- no message that came in has the item among what counts of its IA
abbrev pub HearsNot : Site → IaAsk → Net6 → Entry → List Entry → Type 0
HearsNot site ask net e past = (message : Content6) (said : ItemSaid) → message6_at site e ≡ Some message
    → Contains (said_for ask message) said → said.net ≢ net

abbrev pub NeedsItsName : Type 0
NeedsItsName = (site : Site) (ask : IaAsk) (net : Net6) (now : ℕ) (past : List Entry)
    → Always (HearsNot site ask net) past → ItemBasis site ask net now past → ⊥

-- Where no good Reply names it for an IA_NA that is asked for, an address has no basis as one of DHCPv6.
abbrev pub AddressesAreAsked : Type 0
AddressesAreAsked = (site : Site) (net : Net) (now : ℕ) (past : List Entry)
    → ((ask : IaAsk) (item : Net6) → Contains (asks_at site) ask → ask.kind ≡ Na → net ≡ V6 item
    → Always (λ e earlier. Names site ask item e earlier → ⊥) past)
    → AddressBasis site net now past → ⊥

-- So an item of an IA: for one of the same kind and IAID that is asked for.
abbrev pub HeldItemsAreAsked : Type 0
HeldItemsAreAsked = (site : Site) (ia : IaLeaseContent) (item : Item6) (past : List Entry)
    → ((ask : IaAsk) → Contains (asks_at site) ask → ia.kind ≡ ask.kind → ia.iaid ≡ ask.iaid
    → Always (λ e earlier. Names site ask item.net e earlier → ⊥) past)
    → HasItemBasis ItemBasis site ia item past → ⊥
