-- That the basis of an item ends with what takes the item away (RFC 8415, sections 18.2.7, 18.2.8, 18.2.10.1 and
-- 18.2.12), in other words than the basis has.
use Rattle.std.specs.Prelude.{◌≡◌, ℕ, true, false, List, ◌∷◌, ◌++◌, Some}
use Rattle.std.specs.List.{Contains}
use Rattle.net_types.specs.declared.address.Net6.{Net6}
use Rattle.v6_options.specs.declared.ia.IaKind.TheVariants.{Na}
use Rattle.v6_options.specs.declared.ia.ItemSaid.{ItemSaid}
use Rattle.v6_options.specs.Ias.{IaContent, ias_in}
use Rattle.v6_message.specs.Replies.{Content6}
use Rattle.v6_client.specs.V6Items.declared.asks.IaAsk.{IaAsk}
use Rattle.v6_client.specs.V6Items.Reading.{ia_for, no_binding, saids_of}
use Rattle.world.specs.declared.wakes.Event.TheVariants.{Duplicate, Release, Stop}
use Rattle.lease_evidence.specs.EvidenceWords.Entries.{Entry}
use Rattle.lease_evidence.specs.EvidenceWords.Inputs.{Site, has_carrier, index_at}
use Rattle.lease_evidence.specs.EvidenceWords.Probed.{EachAfter}
use Rattle.lease6_evidence.specs.Exchanges6.{Numbered6}
use Rattle.lease6_evidence.specs.ItemBasis.{ItemBasis}
use Rattle.lease6_evidence.specs.Laws6.{Names}
use Rattle.lease6_evidence.specs.Replies6.{GoodReply}

-- what a turn may be to an item, seen the turns before it
abbrev pub ItemWord : Type 1
ItemWord = Site → IaAsk → Net6 → Entry → List Entry → Type 0

-- no good Reply names the item
abbrev pub NamesNot : ItemWord
NamesNot site ask net e past = Names site ask net e past → ⊥

-- After a turn that takes it away an item has no basis, unless a good Reply names it later.
abbrev pub EndsBy : (Takes : ItemWord) → Type 0
EndsBy Takes =
    (site : Site) (ask : IaAsk) (net : Net6) (now : ℕ) (past later : List Entry) (e : Entry) (earlier : List Entry)
    → past ≡ later ++ e ∷ earlier → Takes site ask net e earlier → EachAfter (NamesNot site ask net) later (e ∷ earlier)
    → ItemBasis site ask net now past → ⊥

-- ---- what comes from the host

-- there was carrier before the turn, and there is none after it
pub record LosesCarrier (site : Site) (ask : IaAsk) (net : Net6) (e : Entry) (past : List Entry) : Type 0 where
  pub before : has_carrier site past ≡ true
  pub after : has_carrier site (e ∷ past) ≡ false

-- the interface is told to give back what it holds
abbrev pub IsReleased : ItemWord
IsReleased site ask net e past = e.event ≡ Release (index_at site)

-- the daemon is told to stop
abbrev pub IsStopped : ItemWord
IsStopped site ask net e past = e.event ≡ Stop

-- another host is found to use the address, which is one of an IA_NA
pub record IsUsedTwice (site : Site) (ask : IaAsk) (net : Net6) (e : Entry) (past : List Entry) : Type 0 where
  pub is_address : ask.kind ≡ Na
  pub told : e.event ≡ Duplicate (index_at site) net.ip

-- ---- what comes from a server

-- what the client reads of an IA's items in a message
abbrev pub said_for : IaAsk → Content6 → List ItemSaid
said_for ask message = saids_of (ia_for ask (ias_in message.options))

-- one of some turns had a good Reply in the exchange of a number
pub record WasAnswered (site : Site) (number : ℕ) (past : List Entry) : Type 0 where
  pub later : List Entry
  pub e : Entry
  pub earlier : List Entry
  pub cut : past ≡ later ++ e ∷ earlier
  pub opened : Numbered6
  pub message : Content6
  pub good : GoodReply site opened message e earlier
  pub same : opened.number ≡ number

-- a good Reply in an exchange that had none before
pub record Answers6 (site : Site) (e : Entry) (past : List Entry) : Type 0 where
  pub opened : Numbered6
  pub message : Content6
  pub good : GoodReply site opened message e past
  pub unanswered : WasAnswered site opened.number past → ⊥

-- Such a Reply names the item, and only with a valid lifetime of 0.
pub record IsWithdrawn (site : Site) (ask : IaAsk) (net : Net6) (e : Entry) (past : List Entry) : Type 0 where
  pub reply : Answers6 site e past
  pub said : ItemSaid
  pub among : Contains (said_for ask reply.message) said
  pub item : said.net ≡ net
  pub none : (other : ItemSaid) → Contains (said_for ask reply.message) other → other.net ≡ net → other.valid ≡ 0

-- In such a Reply the server says of the item's IA that it knows no binding.
pub record IsUnknown (site : Site) (ask : IaAsk) (net : Net6) (e : Entry) (past : List Entry) : Type 0 where
  pub reply : Answers6 site e past
  pub ia : IaContent
  pub is_its : ia_for ask (ias_in reply.message.options) ≡ Some ia
  pub status : ia.status ≡ no_binding
