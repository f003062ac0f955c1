-- What a turn is to the items that are held.
use Rattle.std.specs.Prelude.{◌≡◌, ℕ, Bool, true, not, ◌&&◌, ◌==◌, if◌then◌else◌, Option, Some, None}
use Rattle.std.specs.Option.{option_map}
use Rattle.net_types.specs.declared.address.Ip6.{Ip6}
use Rattle.net_types.specs.declared.address.Net6.{Net6}
use Rattle.v6_options.specs.declared.ia.IaKind.{IaKind}
use Rattle.v6_options.specs.declared.ia.IaKind.TheVariants.{Na, Pd}
use Rattle.world.specs.declared.wakes.Event.{Event}
use Rattle.world.specs.declared.wakes.Event.TheVariants.{Duplicate}
use Rattle.v6_items.specs.declared.asks.IaAsk.{IaAsk}
use Rattle.lease6_judge.specs.Terms.{Term, if_left}
use Rattle.item_judge.specs.declared.table.ItemTable.{ItemTable}
use Rattle.item_judge.specs.declared.table.Turn.{Turn}
use Rattle.item_judge.specs.Kept.{heard_content}
use Rattle.item_judge.specs.Tables.{term_at}
use Rattle.item_judge.specs.Telling.{term_next}

-- an address has all bits
abbrev pub FitsKind : IaKind → Net6 → Type 0
FitsKind Na net = net.len ≡ 128
FitsKind Pd net = Unit {0}

-- the address that another host is reported to use on an interface
abbrev pub reported_at : (index : ℕ) → Event → Option Ip6
reported_at index (Duplicate other addr) = if index == other then Some addr else None
reported_at index _ = None

-- whether that isn't the address of an IA_NA
abbrev pub alone_by : IaKind → Ip6 → (reported : Option Ip6) → Bool
alone_by Na ip None = true
alone_by Na ip (Some addr) = not (addr.number == ip.number)
alone_by Pd ip reported = true

-- what a turn makes of an item's term
abbrev pub next_term : Turn → IaAsk → Net6 → Term → Term
next_term turn ask net term =
    term_next turn.came ask net (option_map heard_content turn.heard)
    (if_left (alone_by ask.kind net.ip turn.reported) (if_left turn.stays term))

pub record IsTurned (turn : Turn) (table next : ItemTable) : Type 0 where
  pub ask : next.ask ≡ table.ask
  pub terms : (net : Net6) → FitsKind table.ask.kind net
      → term_at next.terms net ≡ next_term turn table.ask net (term_at table.terms net)
