-- What a judge of DHCPv6 leases keeps of an interface after some turns, and what it tells of their basis.
use Rattle.std.specs.Prelude.{◌≡◌, ◌↔◌, ℕ, Bool, true, false, ◌&&◌, ◌==◌, List, [], ◌∷◌, map, Option}
use Rattle.std.specs.List.{Contains, list_any}
use Rattle.std.specs.Option.{option_map}
use Rattle.net_types.specs.declared.address.Net.{Net}
use Rattle.net_types.specs.declared.address.Net.TheVariants.{V4, V6}
use Rattle.net_types.specs.declared.address.Net6.{Net6}
use Rattle.v6_options.specs.declared.ia.IaKind.{IaKind}
use Rattle.v6_options.specs.declared.ia.IaKind.TheVariants.{Na, Pd}
use Rattle.v6_items.specs.declared.asks.IaAsk.{IaAsk}
use Rattle.evidence_words.specs.Entries.{Entry, Offer, offers_on}
use Rattle.evidence_words.specs.Inputs.{Site, has_carrier, index_at}
use Rattle.lease6_evidence.specs.Exchanges6.{message6_of}
use Rattle.lease6_evidence.specs.Replies6.{asks_at}
use Rattle.lease6_judge.specs.HeardBasis.{HeardAddressBasis, HeardBasis}
use Rattle.lease6_judge.specs.HeardTerms.{heard_in}
use Rattle.lease6_judge.specs.Terms.{is_held, stays}
use Rattle.item_judge.specs.declared.judge.ItemJudge.{ItemJudge}
use Rattle.item_judge.specs.declared.table.ItemTable.{ItemTable}
use Rattle.item_judge.specs.declared.table.Turn.{Turn}
use Rattle.item_judge.specs.Asking.{AskingContent, all_next, heard_at}
use Rattle.item_judge.specs.Kept.{asking_content, heard_content}
use Rattle.item_judge.specs.Tables.{term_at}
use Rattle.item_judge.specs.Telling.{asking_in}
use Rattle.item_judge.specs.Turns.{FitsKind, IsTurned, reported_at}

-- the open exchange after frames that were offered
abbrev pub offers_next : Site → List Offer → Option AskingContent → Option AskingContent
offers_next site offers asking = all_next (map (message6_of site) (offers_on (index_at site) offers)) asking

-- each table after a turn
abbrev pub AreTurned : Turn → List ItemTable → List ItemTable → Type 0
AreTurned turn [] [] = Unit {0}
AreTurned turn [] (next ∷ nexts) = ⊥
AreTurned turn (table ∷ tables) [] = ⊥
AreTurned turn (table ∷ tables) (next ∷ nexts) = IsTurned turn table next × AreTurned turn tables nexts

-- the turn is that of an entry after others
pub record TellsTurn (turn : Turn) (site : Site) (e : Entry) (past : List Entry) : Type 0 where
  pub stays : turn.stays ≡ stays (has_carrier site past) (index_at site) e.event
  pub reported : turn.reported ≡ reported_at (index_at site) e.event
  pub came : turn.came ≡ e.moment
  pub heard : option_map heard_content turn.heard ≡ heard_at site e (asking_in site past)

-- What stands in a table for an item is how long it is held after some turns.
pub record TellsItems (site : Site) (past : List Entry) (table : ItemTable) (ask : IaAsk) : Type 0 where
  pub ask_is : table.ask ≡ ask
  pub terms : (net : Net6) → FitsKind ask.kind net → term_at table.terms net ≡ heard_in site ask net past

abbrev pub TellsTables : Site → List Entry → List ItemTable → List IaAsk → Type 0
TellsTables site past [] [] = Unit {0}
TellsTables site past [] (ask ∷ asks) = ⊥
TellsTables site past (table ∷ tables) [] = ⊥
TellsTables site past (table ∷ tables) (ask ∷ asks) =
    TellsItems site past table ask × TellsTables site past tables asks

-- the judge's state is that after some turns of an interface
pub record Tells (judge : ItemJudge) (site : Site) (past : List Entry) : Type 0 where
  pub up : judge.up ≡ has_carrier site past
  pub asking : option_map asking_content judge.asking ≡ asking_in site past
  pub tables : TellsTables site past judge.tables.items (asks_at site)

-- ---- what it gives

abbrev pub is_na : IaKind → Bool
is_na Na = true
is_na Pd = false

-- a table has an item as an address, and holds it at a moment
abbrev pub holds_address : ItemTable → Net6 → (now : ℕ) → Bool
holds_address table net now = is_na table.ask.kind && (net.len == 128) && is_held now (term_at table.terms net)

-- the interface holds a net as an address of an IA_NA that it asks for
abbrev pub is_given : Site → Net → (now : ℕ) → List Entry → Bool
is_given site (V4 net) now past = false
is_given site (V6 net) now past =
    list_any (λ ask. is_na ask.kind && (net.len == 128) && is_held now (heard_in site ask net past)) (asks_at site)

abbrev pub is_pd : IaKind → Bool
is_pd Na = false
is_pd Pd = true

-- a table has an item as a prefix of an IAID, and holds it at a moment
abbrev pub holds_prefix : ItemTable → (iaid : ℕ) → Net6 → (now : ℕ) → Bool
holds_prefix table iaid net now =
    is_pd table.ask.kind && (table.ask.iaid == iaid) && is_held now (term_at table.terms net)

-- the interface holds a prefix of an IA_PD of this IAID that it asks for
abbrev pub is_delegated : Site → (iaid : ℕ) → Net6 → (now : ℕ) → List Entry → Bool
is_delegated site iaid net now past =
    list_any (λ ask. is_pd ask.kind && (ask.iaid == iaid) && is_held now (heard_in site ask net past)) (asks_at site)

-- Such a prefix has its basis by the Replies.
pub record IsDelegated (site : Site) (iaid : ℕ) (net : Net6) (now : ℕ) (past : List Entry) : Type 0 where
  pub ask : IaAsk
  pub asked : Contains (asks_at site) ask
  pub is_prefix : ask.kind ≡ Pd
  pub same : ask.iaid ≡ iaid
  pub basis : HeardBasis site ask net now past

abbrev pub PrefixesAreDelegated : Type 0
PrefixesAreDelegated = (site : Site) (iaid : ℕ) (net : Net6) (now : ℕ) (past : List Entry)
    → (is_delegated site iaid net now past ≡ true) ↔ IsDelegated site iaid net now past

-- An address has its basis exactly where it is given.
abbrev pub AddressesAreGiven : Type 0
AddressesAreGiven = (site : Site) (net : Net) (now : ℕ) (past : List Entry)
    → (is_given site net now past ≡ true) ↔ HeardAddressBasis site net now past
