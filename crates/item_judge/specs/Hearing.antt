-- Which IA holds an address, and whether a turn's Reply gives an item by itself (RFC 8415, section 18.2.10.1).
use Rattle.std.specs.Prelude.{ℕ, Bool, false, ◌&&◌, ◌==◌, if◌then◌else◌, List, [], ◌∷◌, Option, Some, None}
use Rattle.net_types.specs.declared.address.Net6.{Net6}
use Rattle.v6_items.specs.declared.asks.IaAsk.{IaAsk}
use Rattle.evidence_words.specs.Entries.{Entry}
use Rattle.evidence_words.specs.Inputs.{Site}
use Rattle.lease6_evidence.specs.Replies6.{asks_at}
use Rattle.lease6_judge.specs.HeardTerms.{good_reply, heard_in, items_heard}
use Rattle.lease6_judge.specs.Terms.{is_held, term_in_saids}
use Rattle.lease6_judge.specs.Watching.{Replied, watch_in}
use Rattle.item_judge.specs.declared.table.ItemTable.{ItemTable}
use Rattle.item_judge.specs.Judging.{holds_address, is_na}

-- whether what came has the item for a time that isn't over now
abbrev pub gives_by : (came : ℕ) → IaAsk → Net6 → (now : ℕ) → Option Replied → Bool
gives_by came ask net now None = false
gives_by came ask net now (Some replied) = is_held now (term_in_saids came net (items_heard ask replied.message))

-- so with the good Reply of a turn
abbrev pub hears_item : Site → IaAsk → Net6 → (now : ℕ) → Entry → List Entry → Bool
hears_item site ask net now e past = gives_by e.moment ask net now (good_reply site e (watch_in site past))

-- whether an IA is one of addresses, and holds this one
abbrev pub holds_in : Site → Net6 → (now : ℕ) → List Entry → IaAsk → Bool
holds_in site net now past ask = is_na ask.kind && (net.len == 128) && is_held now (heard_in site ask net past)

-- the first one that does
abbrev pub holder_of : Site → Net6 → (now : ℕ) → List Entry → List IaAsk → Option IaAsk
holder_of site net now past [] = None
holder_of site net now past (ask ∷ asks) =
    if holds_in site net now past ask then Some ask else holder_of site net now past asks

abbrev pub holder_in : Site → Net6 → (now : ℕ) → List Entry → Option IaAsk
holder_in site net now past = holder_of site net now past (asks_at site)

-- the same by tables
abbrev pub holder_among : List ItemTable → Net6 → (now : ℕ) → Option IaAsk
holder_among [] net now = None
holder_among (table ∷ tables) net now =
    if holds_address table net now then Some table.ask else holder_among tables net now
