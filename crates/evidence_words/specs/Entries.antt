-- What a life shows, turn by turn: what came, and which frames were offered on which interface. Nothing of a machine's
-- state.
use Rattle.std.specs.Prelude.{ℕ, Bool, ◌==◌, List, [], ◌∷◌, filter, flat_map}
use Rattle.world.specs.declared.wakes.Event.{Event}
use Rattle.world.specs.declared.wakes.Event.TheVariants.{Quiet}
use Rattle.world.specs.LinkCalls.{Waited, Offered}
use Rattle.turn_model.specs.DeviceCalls.Calls.{Call, Link, Host, Store, Hook, Dropped}
use Rattle.turn_model.specs.Lives.{OpeningMet, Met}

-- a frame that was offered, the interface's number, and whether the link took it
pub record Offer : Type 0 where
  pub iface : ℕ
  pub bytes : List ℕ
  pub taken : Bool

-- a turn: its moment, its input with the bytes of a frame, and the frames offered, in order
pub record Entry : Type 0 where
  pub moment : ℕ
  pub event : Event
  pub bytes : List ℕ
  pub offers : List Offer

-- those of the frames that were offered on one interface
abbrev pub offers_on : ℕ → List Offer → List Offer
offers_on index offers = filter (λ o. o.iface == index) offers

-- the frame that a call offers
abbrev pub offer_in : Call → List Offer
offer_in (Link (Waited until given)) = []
offer_in (Link (Offered iface frame taken)) = record { iface = iface; bytes = frame; taken = taken } ∷ []
offer_in (Host call) = []
offer_in (Store call) = []
offer_in (Hook number call) = []
offer_in (Dropped job) = []

abbrev pub entry_of : Met → Entry
entry_of met =
    record { moment = met.life.now; event = met.wake.event; bytes = met.bytes; offers = flat_map offer_in met.calls }

-- the opening counts as a turn without input
abbrev pub opening_entry : OpeningMet → Entry
opening_entry opening =
    record { moment = opening.life.now; event = Quiet; bytes = []; offers = flat_map offer_in opening.calls }

-- what the turns of a life show, in front of what was shown before; the newest first
abbrev pub shown_after : List Entry → List Met → List Entry
shown_after past [] = past
shown_after past (met ∷ mets) = shown_after (entry_of met ∷ past) mets

abbrev pub shown_of : OpeningMet → List Met → List Entry
shown_of opening mets = shown_after (opening_entry opening ∷ []) mets
