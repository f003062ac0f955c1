-- What is kept of the exchanges of a lab's clients.
use Rattle.std.specs.Prelude.{ℕ, ◌≡◌, ◌≤◌, Bool, true, false, List, ◌∷◌, None, slice_index_or, if◌then◌else◌}
use Rattle.std.specs.List.{list_any}
use Rattle.v4_message.specs.declared.writing.Said4.{Said4}
use Rattle.lab_model.specs.declared.exchange.Exchange.{Exchange}
use Rattle.lab_model.specs.Exchanges.{Message, all_unlike, exchanges, is_same, open_number}
use Rattle.lab_text.specs.declared.exchanges.Exchanges.{Exchanges}
use Rattle.lab_text.specs.declared.exchanges.Seen.{Seen}
use Rattle.lab_text.specs.declared.exchanges.Xids.{Xids}
use Rattle.lab_text.specs.declared.exchanges.Xids.TheVariants as xids

abbrev pub are_unlike : Xids → Bool
are_unlike xids.Unlike = true
are_unlike xids.Repeat = false

-- these exchanges were seen
pub record SawThose (those : List Exchange) (seen : Seen) : Type 0 where
  pub has : (exchange : Exchange) → list_any (is_same exchange) seen.keys.keys ≡ list_any (is_same exchange) those
  pub unlike : are_unlike seen.xids ≡ all_unlike those

-- one more is seen
abbrev pub Sees : Exchange → (old new : Seen) → Type 0
Sees exchange old new = (those : List Exchange) → SawThose those old → SawThose (exchange ∷ those) new

-- one more is seen, or none
abbrev pub SeesIf : Bool → Exchange → (old new : Seen) → Type 0
SeesIf more exchange old new =
    (those : List Exchange) → SawThose those old → SawThose (if more then exchange ∷ those else those) new

-- it is that of these messages, of which the last one comes first
pub record KeepsThose (past : List Message) (kept : Exchanges) : Type 0 where
  pub last : (iface : ℕ) → iface ≤ 64 → slice_index_or kept.last iface None ≡ open_number iface past
  pub seen : SawThose (exchanges past) kept.seen

abbrev pub message : (iface : ℕ) → Said4 → Message
message iface said = record { iface = iface; said = said }

-- a message comes
abbrev pub Hears : Message → (old new : Exchanges) → Type 0
Hears heard old new = (past : List Message) → KeepsThose past old → KeepsThose (heard ∷ past) new
