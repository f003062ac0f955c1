-- What a judge of DHCPv6 leases tells of their basis.
use Rattle.std.specs.Prelude.{◌≡◌, ◌↔◌, ℕ, true, List, Some}
use Rattle.std.specs.List.{Contains}
use Rattle.net_types.specs.declared.address.Net.{Net}
use Rattle.net_types.specs.declared.address.Net.TheVariants.{V6}
use Rattle.net_types.specs.declared.address.Net6.{Net6}
use Rattle.v6_options.specs.declared.ia.IaKind.TheVariants.{Na}
use Rattle.v6_message.specs.Replies.{Content6}
use Rattle.v6_client.specs.V6Items.declared.asks.IaAsk.{IaAsk}
use Rattle.lease6_evidence.specs.EvidenceWords.Entries.{Entry}
use Rattle.lease6_evidence.specs.EvidenceWords.Inputs.{Site}
use Rattle.lease6_evidence.specs.Exchanges6.{Numbered6}
use Rattle.lease6_evidence.specs.ItemBasis.{AddressBasis, ItemBasis}
use Rattle.lease6_evidence.specs.Replies6.{FirstReply, asks_at}
use Rattle.lease6_judge.specs.Watching.{first_reply, watch_in}
use Rattle.lease6_judge.specs.Terms.{is_held, term_in}

-- The judge takes a message for the first good Reply of an exchange exactly where it is that.
abbrev pub FirstRepliesAreTold : Type 0
FirstRepliesAreTold = (site : Site) (e : Entry) (past : List Entry) (opened : Numbered6) (message : Content6)
    → (first_reply site e (watch_in site past) ≡ Some (record { opened = opened; message = message }))
    ↔ FirstReply site opened message e past

-- It holds an item exactly where the item has its basis.
abbrev pub ItemsAreTold : Type 0
ItemsAreTold = (site : Site) (ask : IaAsk) (net : Net6) (now : ℕ) (past : List Entry)
    → (is_held now (term_in site ask net past) ≡ true) ↔ ItemBasis site ask net now past

-- it holds the address as one of an IA_NA that the interface asks for
pub record IsJudged (site : Site) (net : Net) (now : ℕ) (past : List Entry) : Type 0 where
  pub ask : IaAsk
  pub asked : Contains (asks_at site) ask
  pub is_address : ask.kind ≡ Na
  pub item : Net6
  pub is_item : net ≡ V6 item
  pub held : is_held now (term_in site ask item past) ≡ true

-- An address has the basis of a DHCPv6 one exactly where that is so.
abbrev pub AddressesAreJudged : Type 0
AddressesAreJudged = (site : Site) (net : Net) (now : ℕ) (past : List Entry)
    → AddressBasis site net now past ↔ IsJudged site net now past
