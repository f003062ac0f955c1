-- What it is that something is carried of an interface over the turns of its life.
use Rattle.std.proofs.Common.{◌≡◌, ℕ, ◌<◌, ◌^◌, Bool, true, false, List, [], ◌∷◌}
use Rattle.std.specs.Prelude.{IfSome}
use Rattle.net_types.specs.declared.address.Mac.{Mac}
use Rattle.turn_model.specs.LeaseText.Bounds.{HasText}
use Rattle.turn_model.specs.Lease6Text.Bounds.{HasText6}
use Rattle.world.specs.declared.wakes.Event.{Event}
use Rattle.world.specs.declared.wakes.Event.TheVariants.{Quiet}
use Rattle.turn_model.specs.ScriptModel.IfaceSets.{is_in}
use Rattle.turn_model.specs.ClientModel.declared.interfaces.Iface.{Iface}
use Rattle.turn_model.specs.ClientModel.Messages.{Said}
use Rattle.turn_model.specs.ClientModel.ClientSettings.{ask_of}
use Rattle.turn_model.specs.ClientModel.IfaceSteps.{IfaceStep, index_of}
use Rattle.turn_model.specs.ClientModel.Interfaces.{carrier_at_opening, resting}
use Rattle.turn_model.specs.ClientModel.KeptLeases.{Beginning}
use Rattle.turn_model.specs.ClientModel.IfaceTurns.{iface_turned}
use Rattle.evidence_words.specs.Entries.{Offer, Entry, offers_on}
use Rattle.evidence_words.specs.IfaceLives.{has_failed}
use Rattle.evidence_words.specs.Inputs.{Site, index_at}
use Rattle.evidence_words.proofs.Offers.{Offered}

abbrev pub at_site : List Mac → Bool → Beginning → Site
at_site own up b = record { managed = b.managed; duid = b.duid; own = own; up = up; kept4 = b.kept4; kept6 = b.kept6 }

abbrev pub entry : (at : ℕ) → Event → List ℕ → List Offer → Entry
entry at event bytes offers = record { moment = at; event = event; bytes = bytes; offers = offers }

-- what is carried of an interface: where no send of the newest turn failed on it (`clean`), and of the turns shown
abbrev pub Relation : Type 1
Relation = Site → (clean : Type 0) → Iface → List Entry → Type 0

-- the opening says, and leaves, what the carrier does that there is then
abbrev pub opened_when : (up : Bool) → (at salt : ℕ) → Beginning → IfaceStep
opened_when up at salt b = carrier_at_opening up at salt (resting b)

abbrev pub turned_by : Site → (salt unsent : ℕ) → Entry → Iface → IfaceStep
turned_by site salt unsent e f =
    iface_turned site.own (record { at = e.moment; salt = salt; unsent = unsent; event = e.event; bytes = e.bytes }) f

-- The frames of the entry spell what was said on the interface. Where the numbers of interfaces count from 1 on (`Counted`), one was
-- refused unless no send failed.
pub record Shows (Counted : Type 0) (site : Site) (clean : Type 0) (e : Entry) (said : List Said) : Type 0 where
  pub offered : Offered site.managed.spec (ask_of site.duid site.managed) clean said (offers_on (index_at site) e.offers)
  pub refused : Counted → (clean → ⊥) → has_failed site e ≡ true

-- an opening begins it, whatever leases were kept, and each turn keeps it
pub record IsCarried (Counted : Type 0) (Carries : Relation) : Type 1 where
  pub opens : (own : List Mac) (clean : Type 0) (at salt : ℕ) → at < 10 ^ 15 → (offers : List Offer) (b : Beginning)
      → IfSome b.kept4 HasText → IfSome b.kept6 HasText6 → (up : Bool)
      → Shows Counted (at_site own up b) clean (entry at Quiet [] offers) (opened_when up at salt b).said
      → Carries (at_site own up b) clean (opened_when up at salt b).iface (entry at Quiet [] offers ∷ [])
  pub turns : (site : Site) (clean : Type 0) (salt : ℕ) (e : Entry) → e.moment < 10 ^ 15 → (past : List Entry) (unsent : ℕ) (f : Iface)
      → f.managed ≡ site.managed → Carries site (is_in unsent (index_of f) ≡ false) f past
      → Shows Counted site clean e (turned_by site salt unsent e f).said → Carries site clean (turned_by site salt unsent e f).iface (e ∷ past)
