-- Bounds of what a client asks for, reads and holds.
use Rattle.std.specs.Prelude.{◌≢◌, ℕ, ◌<◌, ◌≤◌, ◌^◌, List, length, AllPairs}
use Rattle.std.specs.List.{AllByRecursion}
use Rattle.v6_options.specs.declared.ia.IaKind.{IaKind}
use Rattle.v6_options.specs.declared.ia.ItemSaid.{ItemSaid}
use Rattle.lease6_text.specs.declared.lease.Item6.{Item6}
use Rattle.lease6_text.specs.declared.lease.TheConstants.{IA_LIMIT, ITEM_LIMIT}
use Rattle.lease6_text.specs.Bounds.{FitsItem}
use Rattle.v6_items.specs.declared.asks.IaAsk.{IaAsk}

-- four items at most, each once
pub record FitsItems (kind : IaKind) (items : List Item6) : Type 0 where
  pub few : length items ≤ ITEM_LIMIT
  pub each : AllByRecursion (FitsItem kind) items
  pub unlike : AllPairs (λ one other. one.net ≢ other.net) items

-- an IA is told apart by its kind and its IAID (RFC 8415, section 12)
abbrev pub ask_key : IaAsk → IaKind × ℕ
ask_key ask = (ask.kind, ask.iaid)

-- six IAs at most, each once
pub record FitsAsks (asks : List IaAsk) : Type 0 where
  pub few : length asks ≤ IA_LIMIT
  pub unlike : AllPairs (λ one other. ask_key one ≢ ask_key other) asks

-- lifetimes are numbers of 32 bits
pub record IsTimed (said : ItemSaid) : Type 0 where
  pub preferred : said.preferred < 2 ^ 32
  pub valid : said.valid < 2 ^ 32

abbrev pub AreTimed : List ItemSaid → Type 0
AreTimed saids = AllByRecursion IsTimed saids
