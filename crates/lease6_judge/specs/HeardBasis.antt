-- Why an item of a DHCPv6 lease may be held, by all that the Replies of an exchange give (RFC 8415, sections 18.2.10
-- and 18.2.10.1). A client may take any item of any of them; what takes an item back is what it looks at first: in the
-- first Reply of a later exchange, the first IA of the item's kind and IAID.
use Rattle.std.specs.Prelude.{◌≡◌, ℕ, ◌<◌, List}
use Rattle.std.specs.List.{Contains}
use Rattle.machine.specs.Since.{Since}
use Rattle.net_types.specs.declared.address.Net.{Net}
use Rattle.net_types.specs.declared.address.Net.TheVariants.{V6}
use Rattle.net_types.specs.declared.address.Net6.{Net6}
use Rattle.v6_options.specs.declared.ia.IaKind.TheVariants.{Na}
use Rattle.v6_options.specs.declared.ia.ItemSaid.{ItemSaid}
use Rattle.v6_options.specs.Ias.{IaContent, ias_in}
use Rattle.v6_message.specs.Replies.{Content6}
use Rattle.v6_client.specs.V6Items.declared.asks.IaAsk.{IaAsk}
use Rattle.v6_client_laws.specs.GivenItems.{IsHeldAs, IsOf, IsWell, MayBeHeld}
use Rattle.lease6_evidence.specs.EvidenceWords.Entries.{Entry}
use Rattle.lease6_evidence.specs.EvidenceWords.Inputs.{Site, StaysOn, index_at}
use Rattle.lease6_evidence.specs.Exchanges6.{Numbered6}
use Rattle.lease6_evidence.specs.ItemBasis.{IsValid, NotContested, Revises}
use Rattle.lease6_evidence.specs.Replies6.{FirstReply, GoodReply, asks_at}

-- an item that may be held, of any IA of a kind and an IAID with which all went well
pub record HasItem (ask : IaAsk) (net : Net6) (message : Content6) : Type 0 where
  pub ia : IaContent
  pub among : Contains (ias_in message.options) ia
  pub is : IsOf ask.kind ask.iaid ia
  pub well : IsWell ia
  pub said : ItemSaid
  pub of_ia : Contains ia.items said
  pub may : MayBeHeld ia.kind said
  pub item : IsHeldAs ia.kind said.net net

-- a good Reply of the exchange of a number has the item, for a valid lifetime that isn't over now
pub record HeardItem (site : Site) (ask : IaAsk) (net : Net6) (number now : ℕ) (e : Entry)
    (past : List Entry) : Type 0 where
  pub opened : Numbered6
  pub message : Content6
  pub good : GoodReply site opened message e past
  pub same : opened.number ≡ number
  pub has : HasItem ask net message
  pub some : 0 < has.said.valid
  pub valid : IsValid e.moment has.said.valid now

-- The carrier stays, nothing is given back, no stop comes, nobody else is reported to use the address, and no first
-- Reply of a later exchange revises the item.
pub record Spares (site : Site) (ask : IaAsk) (net : Net6) (number : ℕ) (e : Entry) (past : List Entry) : Type 0 where
  pub stays : StaysOn site e past
  pub own : NotContested (index_at site) ask.kind net.ip e.event
  pub unrevised : (opened : Numbered6) (message : Content6) → FirstReply site opened message e past
      → number < opened.number → Revises ask net message → ⊥

-- Such a Reply came in some exchange, and each turn after it spared the item.
pub record HeardBasis (site : Site) (ask : IaAsk) (net : Net6) (now : ℕ) (past : List Entry) : Type 0 where
  pub number : ℕ
  pub since : Since (Spares site ask net number) (HeardItem site ask net number now) past

-- an address of an IA_NA that the interface asks for
pub record HeardAddressBasis (site : Site) (net : Net) (now : ℕ) (past : List Entry) : Type 0 where
  pub ask : IaAsk
  pub asked : Contains (asks_at site) ask
  pub is_address : ask.kind ≡ Na
  pub item : Net6
  pub is_item : net ≡ V6 item
  pub basis : HeardBasis site ask item now past
