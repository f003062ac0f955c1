-- Which turn is kept of an address of a DHCPv6 lease (RFC 8415, section 18.2.10).
use Rattle.std.specs.Prelude.{ℕ, if◌then◌else◌, List, [], ◌∷◌, length, Option}
use Rattle.std.specs.Option.{option_map}
use Rattle.net_types.specs.declared.address.Net6.{Net6}
use Rattle.v6_items.specs.declared.asks.IaAsk.{IaAsk}
use Rattle.evidence_words.specs.Entries.{Entry}
use Rattle.evidence_words.specs.Inputs.{Site}
use Rattle.item_judge.specs.Hearing.{hears_item, holder_in}
use Rattle.basis_turns.specs.declared.items.ItemTurns.{ItemTurns}

-- the newest turn whose Reply gives the item for a time that isn't over now
abbrev pub reply_in : Site → IaAsk → Net6 → (now : ℕ) → List Entry → ℕ
reply_in site ask net now [] = 0
reply_in site ask net now (e ∷ past) =
    if hears_item site ask net now e past then length past else reply_in site ask net now past

abbrev pub item_turns : Site → Net6 → (now : ℕ) → List Entry → IaAsk → ItemTurns
item_turns site net now past ask = record { iaid = ask.iaid; reply = reply_in site ask net now past }

abbrev pub item_found : Site → Net6 → (now : ℕ) → List Entry → Option ItemTurns
item_found site net now past = option_map (item_turns site net now past) (holder_in site net now past)
