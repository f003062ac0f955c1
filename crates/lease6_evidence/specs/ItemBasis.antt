-- Why an address of a DHCPv6 lease may be held (RFC 8415, sections 18.2.10 and 12). Moments are in milliseconds.
use Rattle.std.specs.Prelude.{◌≡◌, ◌≢◌, ℕ, ◌+◌, ◌*◌, ◌<◌, ◌⊎◌, List}
use Rattle.std.specs.List.{Contains}
use Rattle.machine.specs.Since.{Since}
use Rattle.net_types.specs.declared.address.Net.{Net}
use Rattle.net_types.specs.declared.address.Net.TheVariants.{V6}
use Rattle.net_types.specs.declared.address.Ip6.{Ip6}
use Rattle.net_types.specs.declared.address.Net6.{Net6}
use Rattle.v6_options.specs.declared.ia.IaKind.{IaKind}
use Rattle.v6_options.specs.declared.ia.IaKind.TheVariants.{Na, Pd}
use Rattle.v6_options.specs.declared.ia.ItemSaid.{ItemSaid}
use Rattle.v6_options.specs.Ias.{ias_in}
use Rattle.v6_message.specs.Replies.{Content6}
use Rattle.v6_client.specs.V6Items.declared.asks.IaAsk.{IaAsk}
use Rattle.v6_client.specs.V6Items.declared.times.TheConstants.{FOREVER, SECOND}
use Rattle.v6_client_laws.specs.GivenItems.{GivesItem, HasNoBinding}
use Rattle.world.specs.declared.wakes.Event.{Event}
use Rattle.world.specs.declared.wakes.Event.TheVariants.{Duplicate}
use Rattle.lease_evidence.specs.EvidenceWords.Entries.{Entry}
use Rattle.lease_evidence.specs.EvidenceWords.Inputs.{Site, StaysOn, index_at}
use Rattle.lease6_evidence.specs.Exchanges6.{Numbered6}
use Rattle.lease6_evidence.specs.Replies6.{FirstReply, asks_at}

-- a message gives an item of an IA
pub record Mentions (ask : IaAsk) (net : Net6) (message : Content6) : Type 0 where
  pub said : ItemSaid
  pub gives : GivesItem ask.kind ask.iaid (ias_in message.options) said
  pub item : said.net ≡ net

-- the server knows nothing of the IA
abbrev pub Unbinds : IaAsk → Content6 → Type 0
Unbinds ask message = HasNoBinding ask.kind ask.iaid (ias_in message.options)

-- a message says something new of an item: it names it, or its server knows nothing of its IA
abbrev pub Revises : IaAsk → Net6 → Content6 → Type 0
Revises ask net message = Mentions ask net message ⊎ Unbinds ask message

-- ---- a turn that leaves an item

-- no other host is reported to use the address of an IA_NA
abbrev pub NotContested : (index : ℕ) → IaKind → Ip6 → Event → Type 0
NotContested index Na ip (Duplicate other addr) = index ≡ other → addr ≢ ip
NotContested index Na ip _ = Unit {0}
NotContested index Pd ip event = Unit {0}

-- The carrier stays, nothing is given back, no stop comes, nobody else is reported to use the address, and no first
-- Reply of an exchange revises the item.
pub record Leaves (site : Site) (ask : IaAsk) (net : Net6) (e : Entry) (past : List Entry) : Type 0 where
  pub stays : StaysOn site e past
  pub own : NotContested (index_at site) ask.kind net.ip e.event
  pub unrevised : (opened : Numbered6) (message : Content6) → FirstReply site opened message e past
      → Revises ask net message → ⊥

-- ---- the basis

-- the valid lifetime isn't over
abbrev pub IsValid : (came valid now : ℕ) → Type 0
IsValid came valid now = (valid ≡ FOREVER) ⊎ (now < came + SECOND * valid)

-- the first Reply of an exchange of this life gives the item for a valid lifetime that isn't over now
pub record Gives (site : Site) (ask : IaAsk) (net : Net6) (now : ℕ) (e : Entry) (past : List Entry) : Type 0 where
  pub opened : Numbered6
  pub message : Content6
  pub reply : FirstReply site opened message e past
  pub mentions : Mentions ask net message
  pub some : 0 < mentions.said.valid
  pub valid : IsValid e.moment mentions.said.valid now

-- Such a Reply came, and each turn after it left the item.
abbrev pub ItemBasis : Site → IaAsk → Net6 → (now : ℕ) → List Entry → Type 0
ItemBasis site ask net now past = Since (Leaves site ask net) (Gives site ask net now) past

-- an address of an IA_NA that the interface asks for
pub record AddressBasis (site : Site) (net : Net) (now : ℕ) (past : List Entry) : Type 0 where
  pub ask : IaAsk
  pub asked : Contains (asks_at site) ask
  pub is_address : ask.kind ≡ Na
  pub item : Net6
  pub is_item : net ≡ V6 item
  pub basis : ItemBasis site ask item now past
