-- No two clients of a lab that `lab` writes hold one leased address.
use Rattle.std.proofs.Common.{ℕ, ◌≡◌, List, Option, sym, subst, ◌∙◌}
use Rattle.settings.specs.declared.interfaces.Managed.{Managed}
use Rattle.conf_text.specs.Settings.{managed_of}
use Rattle.lab_schedule.specs.Schedules.{FitsSchedule}
use Rattle.lab_laws.specs.HeldInLabs.{EndsUnlike}
use Rattle.lab_laws.specs.LabClients.{AreClients}
use Rattle.lab_laws.proofs.Bindings.{no_address_twice, leases_end_with_bindings}
use Rattle.lab_laws.proofs.LastLines.{unlike_is_read}
use Rattle.text_works.specs.declared.status.Status.{Status}
use Rattle.text_works.specs.declared.status.Status.TheVariants as status
use Rattle.text_works.specs.Labs.{IsLabAnswer, IsLabOf, lab_work}
use Rattle.text_works.specs.LabsHeld.{HoldsApartIn, IsHeldApart, LabsHoldApart}
use Rattle.text_works.specs.Works.{IsDone}
use Rattle.text_works.proofs.InputWorks.{lab_managed}
use Rattle.text_works.proofs.ManagedApart.{clients_are}

module _ (bytes text : List ℕ) (lab : IsLabOf bytes text) where
  abbrev managed : List Managed
  managed = managed_of lab.conf lab.schedule.ifaces

  fits : FitsSchedule lab.schedule
  fits = lab.spelled.spells.fits

  clients : AreClients managed
  clients = clients_are lab.conf lab.schedule.ifaces fits.ifaces (lab_managed bytes lab.schedule lab.conf lab.spelled lab.configured)

  holds_apart : HoldsApartIn lab
  holds_apart ends =
      let unlike : EndsUnlike managed lab.schedule = unlike_is_read managed lab.schedule ends.front (sym lab.says ∙ ends.is) in
      let leases = leases_end_with_bindings managed lab.schedule clients fits unlike in
      record { apart = no_address_twice managed lab.schedule clients fits unlike; start_ends = leases.0; turns_end = leases.1 }

pub labs_hold_apart : LabsHoldApart
labs_hold_apart = holds_apart

done : (input old new : Option (List ℕ)) → IsDone lab_work input old new → IsHeldApart input old new
done input old new given = record {
  bytes = given.bytes;
  text = given.text;
  read = given.read;
  lab = given.gives;
  written = given.written;
  apart = labs_hold_apart given.bytes given.text given.gives;
}

pub lab_is_apart : (answer : Status) (input old new : Option (List ℕ)) → IsLabAnswer answer input old new → answer ≡ status.Done → IsHeldApart input old new
lab_is_apart answer input old new is ended = done input old new (subst (λ (a : Status). IsLabAnswer a input old new) ended is)
