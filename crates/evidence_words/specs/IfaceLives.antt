-- The life of one interface alone: how it opens, what it meets in its turns, and what these show.
use Rattle.std.specs.Prelude.{◌≡◌, ℕ, ◌<◌, ◌^◌, Bool, false, not, List, [], ◌∷◌, map}
use Rattle.std.specs.List.{list_any}
use Rattle.net_types.specs.Marks.{AreBytes}
use Rattle.net_types.specs.declared.address.Mac.{Mac}
use Rattle.world.specs.declared.wakes.Event.TheVariants.{Quiet}
use Rattle.turn_model.specs.ScriptModel.IfaceSets.{is_in, is_up}
use Rattle.turn_model.specs.ClientModel.declared.interfaces.Iface.{Iface}
use Rattle.turn_model.specs.ClientModel.ClientSettings.{ask_of}
use Rattle.turn_model.specs.ClientModel.Clients.{frame_of}
use Rattle.turn_model.specs.ClientModel.IfaceSteps.{IfaceStep}
use Rattle.turn_model.specs.ClientModel.Interfaces.{opened}
use Rattle.turn_model.specs.ClientModel.KeptLeases.{Beginning}
use Rattle.turn_model.specs.ClientModel.IfaceTurns.{Turn, iface_turned}
use Rattle.evidence_words.specs.Entries.{Entry, Offer}
use Rattle.evidence_words.specs.Inputs.{Site, offers_at}

-- how an interface opens: which interfaces have carrier, the moment, the salt, and the frames that are offered
pub record Opening : Type 0 where
  pub up : ℕ
  pub at : ℕ
  pub salt : ℕ
  pub offers : List Offer

-- what it meets in a turn, and the frames that are offered
pub record Met : Type 0 where
  pub turn : Turn
  pub offers : List Offer

abbrev pub site_of : List Mac → Beginning → Opening → Site
site_of own beginning opening = record {
  managed = beginning.managed;
  duid = beginning.duid;
  own = own;
  up = is_up opening.up beginning.managed.spec.index.number;
  kept4 = beginning.kept4;
  kept6 = beginning.kept6;
}

abbrev pub opening_entry : Opening → Entry
opening_entry opening = record { moment = opening.at; event = Quiet; bytes = []; offers = opening.offers }

abbrev pub entry_of : Met → Entry
entry_of met = record { moment = met.turn.at; event = met.turn.event; bytes = met.turn.bytes; offers = met.offers }

-- what the turns show, the newest first
abbrev pub shown : Opening → List Met → List Entry
shown opening [] = opening_entry opening ∷ []
shown opening (met ∷ mets) = entry_of met ∷ shown opening mets

-- the step of the opening, whatever lease was kept
abbrev pub opens : Beginning → Opening → IfaceStep
opens beginning opening = opened opening.up opening.at opening.salt beginning

-- the interface after the turns
abbrev pub iface_after : List Mac → Beginning → Opening → List Met → Iface
iface_after own beginning opening [] = (opens beginning opening).iface
iface_after own beginning opening (met ∷ mets) =
    (iface_turned own met.turn (iface_after own beginning opening mets)).iface

-- the frames that are offered on the interface are those of what it says, in order
abbrev pub IsSaid : Site → Entry → IfaceStep → Type 0
IsSaid site e step =
    map (λ o. o.bytes) (offers_at site e) ≡ map (frame_of site.managed.spec (ask_of site.duid site.managed)) step.said

-- whether the link refused one of them
abbrev pub has_failed : Site → Entry → Bool
has_failed site e = list_any (λ o. not o.taken) (offers_at site e)

-- whether it refused one in the newest turn
abbrev pub failed_last : Site → List Entry → Bool
failed_last site [] = false
failed_last site (e ∷ past) = has_failed site e

-- The opening and each turn offer what the interface says. A turn is told whether a send of the turn before failed, its
-- moment is before 10^15, and what comes in are bytes.
abbrev pub IsLived : List Mac → Beginning → Opening → List Met → Type 0
IsLived own beginning opening [] =
    (opening.at < 10 ^ 15) × IsSaid (site_of own beginning opening) (opening_entry opening) (opens beginning opening)
IsLived own beginning opening (met ∷ mets) =
    let site = site_of own beginning opening in
    (met.turn.at < 10 ^ 15) × AreBytes met.turn.bytes
    × (is_in met.turn.unsent beginning.managed.spec.index.number ≡ failed_last site (shown opening mets))
    × IsSaid site (entry_of met) (iface_turned own met.turn (iface_after own beginning opening mets))
    × IsLived own beginning opening mets

-- the moment of the newest turn, in milliseconds since 1970
abbrev pub now_in : List Entry → ℕ
now_in [] = 0
now_in (e ∷ past) = e.moment
