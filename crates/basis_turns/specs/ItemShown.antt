-- The turn on which an address of a DHCPv6 lease rests (RFC 8415, sections 18.2.10 and 18.2.10.1).
use Rattle.std.specs.Prelude.{◌≡◌, ℕ, List}
use Rattle.std.specs.List.{Contains}
use Rattle.net_types.specs.declared.address.Net.{Net}
use Rattle.net_types.specs.declared.address.Net.TheVariants.{V6}
use Rattle.net_types.specs.declared.address.Net6.{Net6}
use Rattle.v6_options.specs.declared.ia.IaKind.TheVariants.{Na}
use Rattle.v6_items.specs.declared.asks.IaAsk.{IaAsk}
use Rattle.evidence_words.specs.Entries.{Entry}
use Rattle.evidence_words.specs.Inputs.{Site}
use Rattle.item_judge.specs.Lease6Evidence.Replies6.{asks_at}
use Rattle.item_judge.specs.Lease6Judge.HeardBasis.{HeardItem, Spares}
use Rattle.basis_turns.specs.Turns.{SinceTurn}
use Rattle.basis_turns.specs.declared.items.ItemTurns.{ItemTurns}

-- A good Reply that has the item came in this turn, in some exchange, and each turn after it spared the item.
pub record ItemSince (reply : ℕ) (site : Site) (ask : IaAsk) (net : Net6) (now : ℕ) (past : List Entry) : Type 0 where
  pub number : ℕ
  pub since : SinceTurn reply (Spares site ask net number) (HeardItem site ask net number now) past

-- It is an address of an IA_NA of this IAID, which the interface asks for.
pub record ItemShown (turns : ItemTurns) (site : Site) (net : Net) (now : ℕ) (past : List Entry) : Type 0 where
  pub ask : IaAsk
  pub asked : Contains (asks_at site) ask
  pub is_address : ask.kind ≡ Na
  pub iaid : ask.iaid ≡ turns.iaid
  pub item : Net6
  pub is_item : net ≡ V6 item
  pub basis : ItemSince turns.reply site ask item now past
